-- The session of an id, in the model.
use Rattle.std.proofs.Common.{◌≡◌, ℕ, ◌<◌, Bool, true, false, cond, List, map, length, get_or, set, is_some, IfSome, Some, None, Ok, Err, Option, sym, refl, ap, ◌∙◌, arith}
use borrow.Author.Tests.{clash}
use Rattle.std.specs.Option.{option_map, ok_or}
use Rattle.std.specs.List.{position}
use Rattle.service.specs.Service.{ServiceModel}
use Rattle.common.specs.Search.{lowest_at, when_found}
use Rattle.slots.proofs.Slots.{lowest_some, lowest_map}
use Rattle.wire.specs.Wire.{SessionId, Refusal, no_work, not_standing}
use Rattle.wire.specs.Models.{id_model}
use Rattle.wire.specs.declared.messages.SessionId.{SessionId as CodeId}
use Rattle.server.specs.declared.records.Tray.{Tray}
use Rattle.server.specs.declared.records.Session.{Session}
use Rattle.server.specs.Server.{SessionM, ServerM, Work, has_id, place_of, session_of, with_session, works_at, is_in_hand, run_slot, run_work, resume_work, set_work_aside}
use Rattle.server.specs.Models.{session_model, bears}
use Rattle.server.specs.Places.{session_at, change_at}
use Rattle.server.proofs.Trays.{lowest_position}
use Rattle.server.proofs.Changes.{with_places}

pub find_is : (ts : List Tray) (ss : List (Option Session)) (id : CodeId) → position (bears id) ss ≡ lowest_at (has_id (id_model id)) (map (session_model ts) ss) 0
find_is ts ss id = lowest_position (bears id) ss ∙ ap (λ f. lowest_at f ss 0) (λ i o. same o i) ∙ sym (lowest_map (has_id (id_model id)) (session_model ts) ss 0)
  where
    same : (o : Option Session) → bears id o ≡ has_id (id_model id) (session_model ts o)
    same None = refl
    same (Some s) = refl

-- what is found stands
pub found : (m : ServerM) (id : SessionId) (o : Option ℕ) → o ≡ place_of m id → IfSome o (λ p. (p < length m.sessions) × (is_some (session_at m p) ≡ true))
found m id None e = tt
found m id (Some p) e =
    let l = lowest_some (has_id id) m.sessions 0 p None (sym e) in
    let q : l.at ≡ p = omega arith in
    (omega arith, ap (λ k. is_some (session_at m k)) (sym q) ∙ some (session_at m l.at) l.holds)
  where
    some : (o : Option SessionM) → has_id id o ≡ true → is_some o ≡ true
    some None h = absurd (clash h)
    some (Some s) h = refl

pub found_stands : (m : ServerM) (id : SessionId) (p : ℕ) → place_of m id ≡ Some p → is_some (session_at m p) ≡ true
found_stands m id p e = (found m id (Some p) (sym e)).1

-- what `ok_or` made of an option
pub ok_from : {X E : Type 0} (o : Option X) (e : E) (x : X) → Ok x ≡ ok_or o e → o ≡ Some x
ok_from None e x h = absurd (let z : ◌≡◌ {A = ℕ} 0 1 = cc in omega arith)
ok_from (Some y) e x h = let q : y ≡ x = cc in ap Some q

pub err_from : {X E : Type 0} (o : Option X) (e d : E) → Err d ≡ ok_or o e → (o ≡ None) × (d ≡ e)
err_from None e d h = (refl, cc)
err_from (Some y) e d h = absurd (let z : ◌≡◌ {A = ℕ} 0 1 = cc in omega arith)

-- an option by a test
pub passed : {X : Type 0} (b : Bool) (x y : X) → cond b (Some x) None ≡ Some y → (b ≡ true) × (y ≡ x)
passed true x y h = (refl, cc)
passed false x y h = absurd (let z : ◌≡◌ {A = ℕ} 0 1 = cc in omega arith)

pub failed : {X : Type 0} (b : Bool) (x : X) → cond b (Some x) None ≡ None → b ≡ false
failed true x h = absurd (let z : ◌≡◌ {A = ℕ} 0 1 = cc in omega arith)
failed false x h = refl

-- a work order that is refused
refused_by : {X Y : Type 0} (b : Bool) (x : X) (y : Y) (d e : Refusal) → cond b (Ok x) (Err d) ≡ Err e → cond b (Ok y) (Err d) ≡ Err e
refused_by true x y d e r = absurd (let z : ◌≡◌ {A = ℕ} 0 1 = cc in omega arith)
refused_by false x y d e r = let q : d ≡ e = cc in ap Err q

pub run_refused : (S : ServiceModel) (k : S.Content) (m : ServerM) (w : Work) (e : Refusal) → set_work_aside m w ≡ Err e → run_work S k m w ≡ Err e
unfolding set_work_aside run_work
run_refused S k m w e h = go (session_of m w.id) h
  where
    go : (o : Option SessionM) → when_found (Err no_work) (λ s. cond (is_in_hand s w) (Ok (tt {0})) (Err no_work)) o ≡ Err e → when_found (Err no_work) (λ s. cond (is_in_hand s w) (Ok (run_slot S k m w.id w.slot s)) (Err no_work)) o ≡ Err e
    go None r = let q : no_work ≡ e = cc in ap Err q
    go (Some s) r = refused_by (is_in_hand s w) (tt {0}) (run_slot S k m w.id w.slot s) no_work e r

-- the session of an id, where it was found, and where it was not
pub session_none : (m : ServerM) (id : SessionId) → place_of m id ≡ None → session_of m id ≡ None
unfolding session_of
session_none m id e = ap (when_found None (λ i. get_or m.sessions i None)) e

pub session_found : (m : ServerM) (id : SessionId) (p : ℕ) → place_of m id ≡ Some p → session_of m id ≡ session_at m p
unfolding session_of
session_found m id p e = ap (when_found None (λ i. get_or m.sessions i None)) e

pub with_found : (m : ServerM) (id : SessionId) (p : ℕ) (o : Option SessionM) → place_of m id ≡ Some p → with_session m id o ≡ with_places m (set m.sessions p o)
unfolding with_session
with_found m id p o e = ap (λ q. with_places m (when_found m.sessions (λ i. set m.sessions i o) q)) e

pub changed_found : (m : ServerM) (id : SessionId) (p : ℕ) (s : SessionM) (f : SessionM → SessionM) → place_of m id ≡ Some p → session_at m p ≡ Some s → change_at m p f ≡ with_session m id (Some (f s))
changed_found m id p s f e k = ap (λ o. with_places m (set m.sessions p (option_map f o))) k ∙ sym (with_found m id p (Some (f s)) e)

-- what the calls make of it
module _ (S : ServiceModel) (k : S.Content) (m : ServerM) where
  pub resume_none : (id : SessionId) (slot : ℕ) → place_of m id ≡ None → resume_work S k m id slot ≡ Err not_standing
  unfolding resume_work
  resume_none id slot e = ap (when_found (Err not_standing) (λ s. cond (works_at s slot) (Ok (run_slot S k m id slot s)) (Err no_work))) (session_none m id e)

  module _ (p : ℕ) (s : SessionM) (h : session_at m p ≡ Some s) where
    pub run_by : (w : Work) (b : Bool) → place_of m w.id ≡ Some p → is_in_hand s w ≡ b → run_work S k m w ≡ cond b (Ok (run_slot S k m w.id w.slot s)) (Err no_work)
    unfolding run_work
    run_by w b e g =
        ap (when_found (Err no_work) (λ r. cond (is_in_hand r w) (Ok (run_slot S k m w.id w.slot r)) (Err no_work))) (session_found m w.id p e ∙ h)
        ∙ ap (λ c. cond c (Ok (run_slot S k m w.id w.slot s)) (Err no_work)) g

    pub resume_by : (id : SessionId) (slot : ℕ) (b : Bool) → place_of m id ≡ Some p → works_at s slot ≡ b → resume_work S k m id slot ≡ cond b (Ok (run_slot S k m id slot s)) (Err no_work)
    unfolding resume_work
    resume_by id slot b e g =
        ap (when_found (Err not_standing) (λ r. cond (works_at r slot) (Ok (run_slot S k m id slot r)) (Err no_work))) (session_found m id p e ∙ h)
        ∙ ap (λ c. cond c (Ok (run_slot S k m id slot s)) (Err no_work)) g

pub aside_none : (m : ServerM) (w : Work) → place_of m w.id ≡ None → set_work_aside m w ≡ Err no_work
unfolding set_work_aside
aside_none m w e = ap (when_found (Err no_work) (λ s. cond (is_in_hand s w) (Ok tt) (Err no_work))) (session_none m w.id e)

pub aside_by : (m : ServerM) (p : ℕ) (s : SessionM) (w : Work) (b : Bool) → session_at m p ≡ Some s → place_of m w.id ≡ Some p → is_in_hand s w ≡ b → set_work_aside m w ≡ cond b (Ok tt) (Err no_work)
unfolding set_work_aside
aside_by m p s w b h e g =
    ap (when_found (Err no_work) (λ r. cond (is_in_hand r w) (Ok tt) (Err no_work))) (session_found m w.id p e ∙ h)
    ∙ ap (λ c. cond c (Ok tt) (Err no_work)) g
