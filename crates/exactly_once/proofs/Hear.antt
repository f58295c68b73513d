-- Hear keeps the invariant.
use Rattle.std.proofs.Common.{◌≡◌, ℕ, length, Some, None, Option, sym, refl, ◌∙◌, subst}
use Rattle.common.specs.Bytes.{Bytes}
use Rattle.wire.specs.Wire.{Request, refusing, short_scratch}
use Rattle.common.specs.Search.{when_found}
use Rattle.server.specs.Server as server
use Rattle.server.specs.Server.{SessionM, session_of, verdict, new, Serving, serve_by}
use Rattle.exactly_once.specs.History.{Told, run, aside, asked_hear, History}
use Rattle.exactly_once.specs.Words.{Call, Stands}
use Rattle.exactly_once.specs.Steps.{Parts, Model, Step, rest_requests, with_server, hear_served, hear_request, hear_step, is_short, act}
use Rattle.exactly_once.specs.Lived.{PartsLaws}
use Rattle.exactly_once.proofs.Tables.{some_same}
use Rattle.exactly_once.proofs.Invariant.{Known, Inv}
use Rattle.exactly_once.proofs.Present.{standing, served_there}
use Rattle.exactly_once.proofs.Quiet.{Good, good_cond, good_found, good_refused}
use Rattle.exactly_once.proofs.Hearing.{NewCall, nothing, gone, served}
use Rattle.exactly_once.proofs.Workorder.{serve_is}
use Rattle.exactly_once.proofs.Setaside.{aside_keeps}
use Rattle.exactly_once.proofs.Firstrun.{run_keeps}

module _ (P : Parts) (laws : PartsLaws P) (first : P.service.Content) (h : History) (m : Model P) (inv : Inv P first h m) (room : ℕ) where
  abbrev step : Told → Call → Serving → Step P
  step told c s = hear_served P (with_server P (rest_requests P m) s.after) c.request told s.answer

  module _ (t o : ℕ) (c : Call) (f : Request) (z : Known h t o c f) where
    works : (told : Told) (st : Stands h c.terminal o (length h)) → NewCall h t o c f (standing P first h m inv c.terminal o st).T (standing P first h m inv c.terminal o st).S → Good P first h (asked_hear told room) (step told c (serve_by new m.server (standing P first h m inv c.terminal o st).S f))
    works run st g = run_keeps P laws first h m inv t o c f z st g room
    works aside st g = aside_keeps P laws first h m inv t o c f z st g room

    by_session : (told : Told) (x : Option SessionM) → session_of m.server f.id ≡ x → Good P first h (asked_hear told room) (step told c (when_found (record { answer = server.says (refusing f 10052); after = m.server }) (λ s. serve_by (verdict s f) m.server s f) x))
    by_session told None e = gone P laws first h m inv told room t o c f z e
    by_session told (Some S) e =
        let w = served_there P first h m inv t o c f z S e in
        let st = w.0 in
        let n = standing P first h m inv c.terminal o st in
        let same : n.S ≡ S = some_same n.S S (sym n.session ∙ w.1) in
        subst (λ s. Good P first h (asked_hear told room) (step told c (serve_by (verdict s f) m.server s f))) same (served P laws first h m inv told room t o c f z st n.T n.S n.terminal_side n.server_side n.both_sides (works told st))

    by_call : (told : Told) → Good P first h (asked_hear told room) (hear_request P (rest_requests P m) told c.request)
    by_call told = subst (λ s. Good P first h (asked_hear told room) (step told c s)) (sym (serve_is h m.server t o c f z)) (by_session told (session_of m.server f.id) refl)

  pub hear_keeps : (told : Told) → Good P first h (asked_hear told room) (act P m (asked_hear told room))
  unfolding hear_step
  hear_keeps told =
      good_cond P first h (asked_hear told room) (is_short room) _ _
      (λ e. good_refused P first h (asked_hear told room) m short_scratch inv)
      (λ e. good_found P first h (asked_hear told room) _ _ (P.requests.gives m.requests) (nothing P laws first h m inv told room) heard)
    where
      heard : (b : Bytes) → P.requests.gives m.requests ≡ Some b → Good P first h (asked_hear told room) (hear_request P (rest_requests P m) told b)
      heard b e =
          let w = inv.waiting.requests b (laws.requests.give_waited m.requests b e) in
          subst (λ x. Good P first h (asked_hear told room) (hear_request P (rest_requests P m) told x)) (sym w.5) (by_call w.0 w.1 w.2 w.3 w.4 told)
