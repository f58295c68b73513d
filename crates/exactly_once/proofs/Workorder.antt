-- The server at the request of a known call: it reads it, and a new call becomes a work order, which run and set-aside find in hand.
use Rattle.std.proofs.Common.{◌≡◌, ℕ, true, cond, eqb, leb, length, get_or, set, Some, None, Ok, Err, Option, sym, refl, ap, ◌∙◌, ⊎_elim, arith}
use Rattle.std.proofs.lemmas.List.{get_or-set_same, get_or-set_other}
use Rattle.std.proofs.lemmas.Bool.{and_from, le-leb, eq-eqb, cond-true, cases_eq}
use Rattle.common.specs.Search.{when_found}
use Rattle.wire.specs.Wire.{SessionId, Request, refusing, no_work, read_request}
use Rattle.server.specs.Server as server
use Rattle.server.specs.Server.{ServerM, SessionM, SlotM, is_working, slot_at, new_slot, with_slot, accepted, session_of, with_session, verdict, Work, works_at, is_in_hand, serve_by, serve_read, serve, run_slot, run_work, set_work_aside}
use Rattle.exactly_once.specs.History.{run, aside, History}
use Rattle.exactly_once.specs.Words.{Call, Stands}
use Rattle.exactly_once.specs.Steps.{Parts, Model, rest_requests, with_server, hear_run, hear_aside, hear_work}
use Rattle.exactly_once.proofs.Messages.{read_written_request}
use Rattle.exactly_once.proofs.Tables.{session_found, session_set, within}
use Rattle.exactly_once.proofs.Invariant.{Known, Inv}
use Rattle.exactly_once.proofs.Present as present
use Rattle.exactly_once.proofs.Present.{Standing, standing, placed_is}

-- the table with another session at place p, where one with the same id stood alone
module _ (s : ServerM) (p : ℕ) (S R : SessionM) (at : get_or s.sessions p None ≡ Some S) (same : R.id ≡ S.id) (alone : (q : ℕ) (r : SessionM) → get_or s.sessions q None ≡ Some r → r.id ≡ S.id → q ≡ p) where
  abbrev pub put_at : ServerM
  put_at = record { boot = s.boot; count = s.count; sessions = set s.sessions p (Some R) }

  pub put_there : get_or (set s.sessions p (Some R)) p None ≡ Some R
  put_there = get_or-set_same s.sessions p (Some R) None (within s.sessions p S at)

  pub put_alone : (q : ℕ) (r : SessionM) → get_or (set s.sessions p (Some R)) q None ≡ Some r → r.id ≡ R.id → q ≡ p
  put_alone q r e i = ⊎_elim (λ x. x) (λ ne. alone q r (sym (get_or-set_other s.sessions p q (Some R) None ne) ∙ e) (i ∙ same)) (cases_eq q p)

  pub put_found : (id : SessionId) → R.id ≡ id → session_of put_at id ≡ Some R
  put_found id e = session_found put_at p R put_there put_alone id e

  pub put_again : (id : SessionId) (x : Option SessionM) → R.id ≡ id → with_session put_at id x ≡ record { boot = s.boot; count = s.count; sessions = set (set s.sessions p (Some R)) p x }
  put_again id x e = session_set put_at p R put_there put_alone id x e

-- the request of a known call is read, and its session asked
pub serve_is : (h : History) (s : ServerM) (t o : ℕ) (c : Call) (f : Request) → Known h t o c f → serve s c.request ≡ when_found (record { answer = server.says (refusing f 10052); after = s }) (λ x. serve_by (verdict x f) s x f) (session_of s f.id)
unfolding serve
serve_is h s t o c f z = ap (serve_read s) (ap read_request z.message ∙ read_written_request f z.fits z.short)

module _ (P : Parts) (first : P.service.Content) (h : History) (m : Model P) (inv : Inv P first h m) (t o : ℕ) (c : Call) (f : Request) (z : Known h t o c f) (st : Stands h c.terminal o (length h)) where
  abbrev pub here : Standing P first h m inv c.terminal o
  here = standing P first h m inv c.terminal o st

  -- the session with the new call in progress
  abbrev pub S1 : SessionM
  S1 = with_slot here.S f.slot (accepted (slot_at here.S f.slot) f)

  abbrev pub order : Work
  order = record { id = f.id; slot = f.slot; number = f.number }

  -- the server with a session at the call's place
  abbrev pub placed : SessionM → ServerM
  placed s = present.placed P first h m inv c.terminal (Some s)

  pub id_is : here.S.id ≡ f.id
  id_is = here.SId ∙ sym (inv.calls.named t o c f z)

  taken_in : with_session m.server f.id (Some S1) ≡ placed S1
  taken_in = placed_is P first h m inv c.terminal o st f.id (Some S1) (sym (inv.calls.named t o c f z))

  found_it : session_of (placed S1) f.id ≡ Some S1
  found_it = put_found m.server c.terminal here.S S1 here.session refl here.alone f.id id_is

  pub slot_now : slot_at S1 f.slot ≡ accepted (slot_at here.S f.slot) f
  slot_now = get_or-set_same here.S.slots f.slot (accepted (slot_at here.S f.slot) f) new_slot (omega (arith, here.server_side.sixteen, (inv.calls.placed t o c f z).0))

  in_hand : is_in_hand S1 order ≡ true
  in_hand = and_from (works_at S1 f.slot) (eqb (slot_at S1 f.slot).number f.number) (and_from (leb f.slot 15) (is_working (slot_at S1 f.slot).last) (le-leb _ _ (inv.calls.placed t o c f z).0) (ap (λ (x : SlotM). is_working x.last) slot_now)) (eq-eqb _ _ (ap (λ (x : SlotM). x.number) slot_now))

  -- told so, hear runs it
  pub run_is : hear_work P (with_server P (rest_requests P m) (with_session m.server f.id (Some S1))) c.request run order ≡ hear_run P (with_server P (rest_requests P m) (placed S1)) c.request (Ok (run_slot P.service m.content (placed S1) f.id f.slot S1))
  unfolding run_work
  run_is =
      ap (λ s. hear_work P (with_server P (rest_requests P m) s) c.request run order) taken_in
      ∙ ap (hear_run P (with_server P (rest_requests P m) (placed S1)) c.request) (ap (when_found (Err no_work) (λ s. cond (is_in_hand s order) (Ok (run_slot P.service m.content (placed S1) f.id f.slot s)) (Err no_work))) found_it ∙ cond-true (is_in_hand S1 order) _ _ in_hand)

  -- or sets it aside
  pub aside_is : hear_work P (with_server P (rest_requests P m) (with_session m.server f.id (Some S1))) c.request aside order ≡ hear_aside P (with_server P (rest_requests P m) (placed S1)) c.request (Ok tt)
  unfolding set_work_aside
  aside_is =
      ap (λ s. hear_work P (with_server P (rest_requests P m) s) c.request aside order) taken_in
      ∙ ap (hear_aside P (with_server P (rest_requests P m) (placed S1)) c.request) (ap (when_found (Err no_work) (λ s. cond (is_in_hand s order) (Ok tt) (Err no_work))) found_it ∙ cond-true (is_in_hand S1 order) _ _ in_hand)
