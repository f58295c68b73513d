-- The lowest place without a standing session is the server's lowest vacant place.
use Rattle.std.proofs.Common.{◌≡◌, ℕ, suc, ◌+◌, ◌<◌, ◌≤◌, Bool, true, false, cond, not, eqb, ltb, List, [], ◌∷◌, length, get_or, is_some, Some, None, Ok, Err, Option, Result, unwrap_or, sym, refl, ap, ◌∙◌, subst, arith}
use borrow.Author.Tests.{clash}
use Rattle.std.proofs.lemmas.Bool.{ltb-false, eqb-false}
use Rattle.wire.specs.Wire.{Refusal, high_target, no_place, no_count, few_trays}
use Rattle.common.specs.Search.{when_found, lowest_at}
use Rattle.server.specs.Server.{ServerM, SessionM, Opening, session_of, is_vacant, free_trays, opened_in, open_in, open_session}
use Rattle.terminal.specs.Terminal.{TerminalM}
use Rattle.exactly_once.specs.History.{History}
use Rattle.exactly_once.specs.Words.{Stands}
use Rattle.exactly_once.specs.Steps.{Parts, Model, terminal_at, stands, free_place}
use Rattle.exactly_once.proofs.Tables.{some_same, some_none, lowest_tells}
use Rattle.exactly_once.proofs.Invariant.{Inv}
use Rattle.exactly_once.proofs.Present.{standing, not_there}

-- two tables of one length whose tests agree at each place have the same lowest place
pub lowest_like : {X Y : Type 0} (f : X → Bool) (g : Y → Bool) (xs : List X) (ys : List Y) (i : ℕ) (c : X) (d : Y) → length xs ≡ length ys → ((j : ℕ) → f (get_or xs j c) ≡ g (get_or ys j d)) → lowest_at f xs i ≡ lowest_at g ys i
lowest_like f g [] [] i c d len e = refl
lowest_like f g [] (y ∷ ys) i c d len e = absurd (omega (arith, len))
lowest_like f g (x ∷ xs) [] i c d len e = absurd (omega (arith, len))
lowest_like f g (x ∷ xs) (y ∷ ys) i c d len e =
    ap (λ b. cond b (Some i) (lowest_at f xs (i + 1))) (e 0) ∙ ap (cond (g y) (Some i)) (lowest_like f g xs ys (i + 1) c d (omega (arith, len)) (λ j. e (suc j)))

-- an open is refused, or gives the server's lowest vacant place
pub open_cases : (s : ServerM) (target : ℕ) (Q : Result Opening Refusal → Type 0) → ((r : Refusal) → Q (Err r)) → ((p : ℕ) → target ≤ 15 → lowest_at is_vacant s.sessions 0 ≡ Some p → (s.count ≡ 18446744073709551615 → ⊥) → Q (Ok (opened_in s target p))) → Q (open_session s target)
unfolding open_session
open_cases s target Q bad good = go (ltb 15 target) (lowest_at is_vacant s.sessions 0) refl refl
  where
    inside : (p : ℕ) → target ≤ 15 → lowest_at is_vacant s.sessions 0 ≡ Some p → (b c : Bool) → eqb s.count 18446744073709551615 ≡ b → Q (cond b (Err no_count) (cond c (Err few_trays) (Ok (opened_in s target p))))
    inside p low e true c f = bad no_count
    inside p low e false true f = bad few_trays
    inside p low e false false f = good p low e (eqb-false s.count 18446744073709551615 f)

    go : (b : Bool) (o : Option ℕ) → ltb 15 target ≡ b → lowest_at is_vacant s.sessions 0 ≡ o → Q (cond b (Err high_target) (when_found (Err no_place) (open_in s target) o))
    go true o e f = bad high_target
    go false None e f = bad no_place
    go false (Some p) e f = inside p (ltb-false 15 target e) f (eqb s.count 18446744073709551615) (ltb (free_trays s) (target + 1)) refl

module _ (P : Parts) (first : P.service.Content) (h : History) (m : Model P) (inv : Inv P first h m) where
  -- no session stands at a vacant place
  pub vacant_fallen : (p o : ℕ) → get_or m.server.sessions p None ≡ None → Stands h p o (length h) → ⊥
  vacant_fallen p o e st =
      let w = inv.places.session_there p o st in
      some_none w.0 (sym w.1 ∙ e)

  -- a record's session stands exactly where the server has a session
  pub stands_there : (p : ℕ) → stands m.server (terminal_at P m p) ≡ is_some (get_or m.server.sessions p None)
  stands_there p = go (terminal_at P m p) (get_or m.server.sessions p None) refl refl
    where
      go : (t : Option TerminalM) (s : Option SessionM) → terminal_at P m p ≡ t → get_or m.server.sessions p None ≡ s → stands m.server t ≡ is_some s
      go None None a b = refl
      go None (Some S) a b =
          let k = inv.places.session_known p S b in
          let w = inv.places.terminal_there p k.0 (inv.places.newest p k.0 k.1) in
          absurd (some_none w.0 (sym w.1 ∙ a))
      go (Some T) None a b =
          let w = inv.places.terminal_known p T a in
          ap is_some (not_there P first h m inv p w.0 T w.1 w.2 (vacant_fallen p w.0 b))
      go (Some T) (Some S) a b =
          let k = inv.places.session_known p S b in
          let n = standing P first h m inv p k.0 k.1 in
          let same : n.T ≡ T = some_same n.T T (sym n.terminal ∙ a) in
          ap is_some (ap (λ x. session_of m.server x.id) (sym same) ∙ n.lookup)

  -- the free place of the house
  pub free_is : (p : ℕ) → lowest_at is_vacant m.server.sessions 0 ≡ Some p → free_place P m ≡ p
  free_is p e = ap (λ x. unwrap_or x 7) (lowest_like (λ t. not (stands m.server t)) is_vacant m.terminals m.server.sessions 0 None None (inv.places.eight_terminals ∙ sym inv.places.eight_sessions) (λ j. ap not (stands_there j)) ∙ e)

-- what the lowest vacant place tells
pub vacant_tells : (xs : List (Option SessionM)) (p : ℕ) → lowest_at is_vacant xs 0 ≡ Some p → (p < length xs) × (get_or xs p None ≡ None)
vacant_tells xs p e =
    let w = lowest_tells is_vacant xs 0 None p e in
    let is : w.0 ≡ p = omega (arith, w.1) in
    (subst (λ k. k < length xs) is w.2.inside, subst (λ k. get_or xs k None ≡ None) is (empty (get_or xs w.0 None) w.2.passes))
  where
    empty : (s : Option SessionM) → is_vacant s ≡ true → s ≡ None
    empty None f = refl
    empty (Some s) f = absurd (clash f)
