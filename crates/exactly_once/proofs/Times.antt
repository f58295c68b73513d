-- The times of a history: an event has one time, below the length, and a time one event.
use Rattle.std.proofs.Common.{◌≡◌, ℕ, ◌<◌, ◌⊎◌, [], ◌∷◌, length, sym, refl, ◌∙◌, inl, inr, ⊎_elim, arith}
use Rattle.std.proofs.lemmas.Bool.{cases_eq}
use Rattle.exactly_once.specs.History.{Event, History, At}

-- each time is below the length
pub at_below : (h : History) (t : ℕ) (e : Event) → At h t e → t < length h
at_below [] t e a = absurd a
at_below (x ∷ h) t e (inl p) = omega (arith, p.0)
at_below (x ∷ h) t e (inr a) = omega (arith, at_below h t e a)

-- one event at a time
pub at_one : (h : History) (t : ℕ) (e f : Event) → At h t e → At h t f → e ≡ f
at_one [] t e f a b = absurd a
at_one (x ∷ h) t e f (inl p) (inl q) = p.1 ∙ sym q.1
at_one (x ∷ h) t e f (inl p) (inr b) = absurd (omega (arith, p.0, at_below h t f b))
at_one (x ∷ h) t e f (inr a) (inl q) = absurd (omega (arith, q.0, at_below h t e a))
at_one (x ∷ h) t e f (inr a) (inr b) = at_one h t e f a b

-- there is an event at each time below the length
pub at_some : (h : History) (t : ℕ) → t < length h → (e : Event) × At h t e
at_some [] t lt = absurd (omega arith)
at_some (x ∷ h) t lt = ⊎_elim (λ p. (x, inl (p, refl))) (λ ne. older (at_some h t (omega (arith, lt, ne)))) (cases_eq t (length h))
  where
    older : ((e : Event) × At h t e) → (e : Event) × At (x ∷ h) t e
    older q = (q.0, inr q.1)

-- the newest event
pub at_newest : (x : Event) (h : History) → At (x ∷ h) (length h) x
at_newest x h = inl (refl, refl)

pub newest_is : (x : Event) (h : History) (e : Event) → At (x ∷ h) (length h) e → e ≡ x
newest_is x h e a = at_one (x ∷ h) (length h) e x a (at_newest x h)

-- an event that is not the newest
pub at_older : (x : Event) (h : History) (t : ℕ) (e : Event) → t < length h → At (x ∷ h) t e → At h t e
at_older x h t e lt (inl p) = absurd (omega (arith, lt, p.0))
at_older x h t e lt (inr a) = a

-- a time of the longer history is the newest one or a time of the shorter
pub newest_or_older : (x : Event) (h : History) (t : ℕ) (e : Event) → At (x ∷ h) t e → ((t ≡ length h) × (e ≡ x)) ⊎ ((t < length h) × At h t e)
newest_or_older x h t e (inl p) = inl p
newest_or_older x h t e (inr a) = inr (at_below h t e a, a)
