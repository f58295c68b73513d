-- The calls at a session: open, retarget and close.
use Rattle.std.proofs.Common.{◌≡◌, ℕ, Some, None, Ok, Err, Option, Result, sym, refl, ap, ◌∙◌, arith}
use Rattle.common.specs.Search.{when_found}
use Rattle.wire.specs.declared.refusals.Refusal.{Refusal as CodeRefusal}
use Rattle.wire.specs.Wire.{SessionId, Refusal, no_terminal}
use Rattle.server.specs.Server.{ServerM, Opening, open_session, after_call}
use Rattle.server.specs.Calls.{calling, after_opening}
use Rattle.terminal.specs.Terminal.{TerminalM, new_terminal}
use Rattle.exactly_once.specs.History.{ok, opened}
use Rattle.exactly_once.specs.Steps.{Parts, Model, Step, terminal_at, refuse, plainly, with_server, with_terminal, free_place, open_by, open_step, server_by}
use Rattle.house.specs.Answers.{answer_by}
use Rattle.house.specs.Sessions.{id_in}

module _ (P : Parts) (m : Model P) where
  -- open, by what the server answered
  pub open_refused : (target : ℕ) (e : Refusal) → Err e ≡ open_session m.server target → open_step P m target ≡ refuse P m e
  unfolding open_step
  open_refused target e is = ap (open_by P m target) (sym is)

  pub open_done : (target : ℕ) (o : Opening) → Ok o ≡ open_session m.server target → open_step P m target ≡ plainly P (with_terminal P (with_server P m o.after) (free_place P m) (new_terminal o.id target)) (opened (free_place P m))
  unfolding open_step
  open_done target o is = ap (open_by P m target) (sym is)

  -- a server that refused to open is as it was
  pub open_stays : (target : ℕ) (e : Refusal) (n : ServerM) → Err e ≡ open_session m.server target → n ≡ after_opening m.server (open_session m.server target) → n ≡ m.server
  open_stays target e n is after = after ∙ ap (after_opening m.server) (sym is)

  -- a call that wants the session id of the terminal at p
  abbrev pub at_place : ℕ → (SessionId → Step P) → Step P
  at_place p by = when_found (refuse P m no_terminal) (λ (t : TerminalM). by t.id) (terminal_at P m p)

  module _ (by : SessionId → Step P) where
    none_at : (o : Option TerminalM) (e : Refusal) → Err e ≡ id_in o → when_found (refuse P m no_terminal) (λ (t : TerminalM). by t.id) o ≡ refuse P m e
    none_at None e is = let same : no_terminal ≡ e = cc in ap (refuse P m) same
    none_at (Some t) e is = absurd (let z : ◌≡◌ {A = ℕ} 0 1 = cc in omega arith)

    pub place_none : (p : ℕ) (e : Refusal) → Err e ≡ id_in (terminal_at P m p) → at_place p by ≡ refuse P m e
    place_none p e is = none_at (terminal_at P m p) e is

    some_at : (o : Option TerminalM) (id : SessionId) → Ok id ≡ id_in o → when_found (refuse P m no_terminal) (λ (t : TerminalM). by t.id) o ≡ by id
    some_at None id is = absurd (let z : ◌≡◌ {A = ℕ} 0 1 = cc in omega arith)
    some_at (Some t) id is = let same : t.id ≡ id = cc in ap by same

    pub place_some : (p : ℕ) (id : SessionId) → Ok id ≡ id_in (terminal_at P m p) → at_place p by ≡ by id
    place_some p id is = some_at (terminal_at P m p) id is

  -- what the server answered, as the house's step
  pub record Called (r : Result (Unit {0}) CodeRefusal) (n : ServerM) (x : Result ServerM Refusal) : Type 0 where
    pub answer : answer_by (λ _. ok) r ≡ (server_by P m x).answer
    pub state : with_server P m n ≡ (server_by P m x).after

  pub called : (r : Result (Unit {0}) CodeRefusal) (n : ServerM) (x : Result ServerM Refusal) → calling r n ≡ x → n ≡ after_call m.server x → Called r n x
  called (Ok u) n x e f = rw (← e) (record { answer = refl; state = refl })
  called (Err d) n x e f = let stays : n ≡ m.server = f ∙ ap (after_call m.server) (sym e) in rw (← e) (record { answer = refl; state = ap (with_server P m) stays })
