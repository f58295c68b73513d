-- A request is heard, or work resumed.
use Rattle.std.proofs.Common.{◌≡◌, ℕ, ◌<◌, ◌≤◌, min, cond, ltb, leb, Some, None, Ok, Err, Option, Result, sym, refl, ap, ◌∙◌, ⊎_elim, arith}
use Rattle.std.proofs.lemmas.Bool.{cond-true, cond-false, lt-ltb, le-ltb, lt-leb, and_left, cases_lt}
use Rattle.common.specs.Bytes.{Bytes}
use Rattle.common.specs.Search.{when_found}
use Rattle.channel.specs.Channel as channel
use Rattle.service.specs.Service.{ServiceModel}
use Rattle.wire.specs.Wire.{SessionId, Refusal, short_scratch, not_standing, no_work}
use Rattle.server.specs.Server.{ServerM, SessionM, Served, fault, says, old, work, Run, slot_at, is_working, works_at, run_slot, session_of, run_work, set_work_aside, resume_work, serve}
use Rattle.exactly_once.specs.History.{Told, run, aside}
use Rattle.exactly_once.specs.Steps.{Parts, Model, Step, terminal_at, refuse, hear_run, hear_aside, hear_served, hear_request, hear_step, resume_by, resume_step}
use Rattle.house.specs.Took.{took}
use Rattle.house.specs.Sessions.{id_in}
use Rattle.house.proofs.Calling.{at_place, place_none, place_some}
use Rattle.house.proofs.Took.{by_took, takes}

-- no session has work past its last slot
module _ (S : ServiceModel) (k : S.Content) (v : ServerM) (id : SessionId) where
  high : (o : Option SessionM) (i : ℕ) → 15 < i → when_found (Err not_standing) (λ s. cond (works_at s i) (Ok (run_slot S k v id i s)) (Err no_work)) o ≡ when_found (Err not_standing) (λ s. Err no_work) o
  high None i h = refl
  high (Some s) i h = cond-false (works_at s i) (Ok (run_slot S k v id i s)) (Err no_work) (and_left (leb i 15) (is_working (slot_at s i).last) (lt-leb i 15 h))

  pub resume_low : (i : ℕ) → resume_work S k v id (min i 16) ≡ resume_work S k v id i
  unfolding resume_work
  resume_low i = ⊎_elim below above (cases_lt i 16)
    where
      below : i < 16 → when_found (Err not_standing) (λ s. cond (works_at s (min i 16)) (Ok (run_slot S k v id (min i 16) s)) (Err no_work)) (session_of v id) ≡ when_found (Err not_standing) (λ s. cond (works_at s i) (Ok (run_slot S k v id i s)) (Err no_work)) (session_of v id)
      below h = let e : min i 16 ≡ i = omega arith in ap (λ j. when_found (Err not_standing) (λ s. cond (works_at s j) (Ok (run_slot S k v id j s)) (Err no_work)) (session_of v id)) e

      above : 16 ≤ i → when_found (Err not_standing) (λ s. cond (works_at s (min i 16)) (Ok (run_slot S k v id (min i 16) s)) (Err no_work)) (session_of v id) ≡ when_found (Err not_standing) (λ s. cond (works_at s i) (Ok (run_slot S k v id i s)) (Err no_work)) (session_of v id)
      above h = high (session_of v id) (min i 16) (omega arith) ∙ sym (high (session_of v id) i (omega arith))

module _ (P : Parts) (m : Model P) where
  -- the house with other requests
  abbrev pub with_requests : P.requests.State → Model P
  with_requests qs = record { server = m.server; terminals = m.terminals; content = m.content; requests = qs; replies = m.replies }

  -- the step of a hear, by what was taken
  abbrev pub heard : Told → P.requests.State → Result Bytes Refusal → Step P
  heard told = by_took P.requests (λ q. refuse P (with_requests q)) (λ q. hear_request P (with_requests q) told)

  pub hear_is : (told : Told) (room : ℕ) → hear_step P m told room ≡ heard told (channel.take_step P.requests m.requests room) (took P.requests m.requests room)
  unfolding hear_step
  hear_is told room = takes P.requests (λ q. refuse P (with_requests q)) (λ q. hear_request P (with_requests q) told) m.requests room

  -- whatever serve gives, the request was taken
  module _ (b : Bytes) where
    run_took : (x : Result (Run P.service) Refusal) (n : Model P) → (hear_run P n b x).took ≡ Some b
    run_took (Ok r) n = refl
    run_took (Err e) n = refl

    aside_took : (x : Result (Unit {0}) Refusal) (n : Model P) → (hear_aside P n b x).took ≡ Some b
    aside_took (Ok u) n = refl
    aside_took (Err e) n = refl

    served_took : (told : Told) (x : Served) (n : Model P) → (hear_served P n b told x).took ≡ Some b
    served_took told (fault e) n = refl
    served_took told (says r) n = refl
    served_took told (old r) n = refl
    served_took run (work w) n = run_took (run_work P.service n.content n.server w) n
    served_took aside (work w) n = aside_took (set_work_aside n.server w) n

  pub hear_took : (b : Bytes) (told : Told) → (hear_request P m told b).took ≡ Some b
  hear_took b told = served_took b told (serve m.server b).answer _

  -- the step of a resume
  module _ (p slot room : ℕ) where
    pub resume_short : room < 304 → resume_step P m p slot room ≡ refuse P m short_scratch
    unfolding resume_step
    resume_short h = cond-true (ltb room 304) (refuse P m short_scratch) (at_place P m p (λ id. resume_by P m (resume_work P.service m.content m.server id slot))) (lt-ltb room 304 h)

    resume_is : 304 ≤ room → resume_step P m p slot room ≡ at_place P m p (λ id. resume_by P m (resume_work P.service m.content m.server id slot))
    unfolding resume_step
    resume_is h = cond-false (ltb room 304) (refuse P m short_scratch) (at_place P m p (λ id. resume_by P m (resume_work P.service m.content m.server id slot))) (le-ltb room 304 h)

    pub resume_none : (e : Refusal) → 304 ≤ room → Err e ≡ id_in (terminal_at P m p) → resume_step P m p slot room ≡ refuse P m e
    resume_none e h is = resume_is h ∙ place_none P m (λ id. resume_by P m (resume_work P.service m.content m.server id slot)) p e is

    -- by what the server answered, asked with a slot of at most 16
    pub resumed : (id : SessionId) (i : ℕ) (x : Result (Run P.service) Refusal) → 304 ≤ room → Ok id ≡ id_in (terminal_at P m p) → i ≡ min slot 16 → x ≡ resume_work P.service m.content m.server id i → resume_step P m p slot room ≡ resume_by P m x
    resumed id i x h is low e =
        let same = e ∙ ap (resume_work P.service m.content m.server id) low ∙ resume_low P.service m.content m.server id slot in
        resume_is h ∙ place_some P m (λ id. resume_by P m (resume_work P.service m.content m.server id slot)) p id is ∙ ap (resume_by P m) (sym same)
