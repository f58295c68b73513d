-- A run keeps the invariant, by hear or by resume.
use Rattle.std.proofs.Common.{◌≡◌, ℕ, suc, ◌+◌, ◌<◌, ◌≤◌, Bool, true, false, cond, not, ◌&&◌, ltb, ◌⊎◌, [], ◌∷◌, ◌++◌, length, set, Some, sym, refl, ap, ◌∙◌, subst, inl, inr, ⊎_elim, arith}
use borrow.Author.Tests.{clash}
use Rattle.std.proofs.lemmas.List.{length-set}
use Rattle.std.proofs.lemmas.Bool.{and_from, and_parts, and_right, or_cases, or_parts, or_left, le-ltb, ltb-true, eqb-true, eqb-false, cond-true, cond_both, cases_lt, cases_Bool, not_from_false}
use Rattle.common.specs.Bytes.{Bytes}
use Rattle.common.specs.Search.{In}
use Rattle.wire.specs.Wire.{Request, request_message, reply_message}
use Rattle.server.specs.Server.{ServerM, SessionM, SlotM, kept, not_kept, slot_at, with_slot, with_open, is_bare, is_kept, shuts, run_open, run_highest, finished, run_bytes, run_content}
use Rattle.terminal.specs.Terminal.{EndM, OpenCall, Effect, end_at}
use Rattle.exactly_once.specs.History.{Told, asked_hear, Event, History}
use Rattle.exactly_once.specs.Words.{Call, Ordered, Session, Stands, HeardBefore, RanBefore}
use Rattle.exactly_once.specs.Steps.{Parts, Model}
use Rattle.exactly_once.specs.Lived.{PartsLaws}
use Rattle.exactly_once.proofs.Messages.{same_reply_target}
use Rattle.exactly_once.proofs.Tables.{some_same}
use Rattle.exactly_once.proofs.Unique.{Orders, ordered_one, session_one}
use Rattle.exactly_once.proofs.Newest.{Opens, EndsSession, Replies, Hears, Resumes, Runs, ran_now}
use Rattle.exactly_once.proofs.Runlist.{runs_on, runs_push, after_push}
use Rattle.exactly_once.proofs.Invariant.{Known, Put, Unkept, result, Answers, ByLast, Ready, Done, Inv}
use Rattle.exactly_once.proofs.Carry.{put_new, put_now}
use Rattle.exactly_once.proofs.Present.{Standing, standing}
use Rattle.exactly_once.proofs.Ordering.{highest_bound}
use Rattle.exactly_once.proofs.Serving.{Working, working_inv}

module _ (P : Parts) (laws : PartsLaws P) (first : P.service.Content) (h : History) (m : Model P) (inv : Inv P first h m) (e : Event) (t o : ℕ) (c : Call) (f : Request) (z : Known h t o c f) (st : Stands h c.terminal o (length h)) (S1 : SessionM) where
  abbrev here : Standing P first h m inv c.terminal o
  here = standing P first h m inv c.terminal o st

  abbrev i : ℕ
  i = f.slot

  abbrev V : SlotM
  V = slot_at S1 i

  abbrev E : EndM
  E = end_at here.T i

  abbrev bytes : Bytes
  bytes = run_bytes P.service m.content V

  abbrev high : ℕ
  high = run_highest S1 i

  abbrev Y : SlotM
  Y = finished S1 i bytes

  -- the slot in progress as S1 has it, and what the event is
  pub record Running : Type 0 where
    pub length16 : length S1.slots ≡ 16
    pub goal : S1.target ≡ here.S.target
    pub number : (slot_at S1 f.slot).number ≡ f.number
    pub highest : (slot_at S1 f.slot).highest ≡ f.highest
    pub keep : (slot_at S1 f.slot).keep ≡ f.keep
    pub body : (slot_at S1 f.slot).body ≡ f.body
    pub is_open : (slot_at S1 f.slot).is_open ≡ true
    pub no_order : (d : Call) → Orders e d → ⊥
    pub no_open : (q : ℕ) → Opens e q → ⊥
    pub no_end : (q : ℕ) → EndsSession e q → ⊥
    pub no_reply : (d : Call) (g : Effect) → Replies e d g → ⊥
    pub only_hears : (u v : ℕ) (d : Call) (g : Request) (b : Told) → Known h u v d g → Hears e d b → u ≡ t
    pub only_resumes : (q s : ℕ) → Resumes e q s → (q ≡ c.terminal) × (s ≡ f.slot)
    pub only_runs : (u v : ℕ) (d : Call) (g : Request) → Known h u v d g → Runs h e v d → u ≡ t
    pub level : f.number ≡ (end_at here.T f.slot).number
    pub grows : (slot_at here.S f.slot).number ≤ f.number
    pub next : f.number ≤ (slot_at here.S f.slot).number + 1
    pub below_ran : (u : ℕ) (d : Call) (g : Request) → Known h u o d g → g.slot ≡ f.slot → g.number < f.number → RanBefore h o d (length h)
    pub heard_now : HeardBefore (e ∷ h) o c (suc (length h))
    pub held : OpenCall
    pub holds : (end_at here.T f.slot).call ≡ Some held
    pub held_highest : held.highest ≡ f.highest
    pub held_part : held.part ≡ ltb held.highest f.slot
    pub runs : Runs h e o c
    pub put : e.put ≡ Some (reply_message (result f (run_highest S1 f.slot) S1.target (run_bytes P.service m.content (slot_at S1 f.slot))))

  module _ (G : Running) where
    high_low : high ≤ 15
    high_low = highest_bound (λ (x : SlotM). x.is_open) (set S1.slots i (with_open (run_open S1 i) V)) 0 0 15 (omega arith) (omega (arith, length-set S1.slots i (with_open (run_open S1 i) V), G.length16))

    goal_low : S1.target ≤ 15
    goal_low = omega (arith, G.goal, here.server_side.target)

    bytes_low : length bytes ≤ 256
    bytes_low = cond_both (is_bare V) [] (P.service.reply m.content V.body) (λ b. length b ≤ 256) (λ x. omega arith) (λ x. laws.service.short m.content V.body)

    body_is : V.body ≡ c.body
    body_is = G.body ∙ z.body

    bare_is : is_bare V ≡ true → length c.body ≡ 0
    bare_is x = sym (ap length body_is) ∙ eqb-true (length V.body) 0 x

    full_is : is_bare V ≡ false → 0 < length c.body
    full_is x = ⊎_elim (λ l. l) (λ le. absurd (eqb-false (length V.body) 0 x (ap length body_is ∙ (omega (arith, le))))) (cases_lt 0 (length c.body))

    was_put : Put (e ∷ h) o c (reply_message (result f high S1.target bytes))
    was_put = put_now e h o c (reply_message (result f high S1.target bytes)) G.runs G.put

    kept_not : is_kept V ≡ true → Unkept c → ⊥
    kept_not x u = ⊎_elim (λ b. omega (arith, bare_is b, u.0)) (λ k. clash (sym (G.keep ∙ z.keep ∙ u.1) ∙ k)) (or_cases (is_bare V) V.keep x)

    last : (b : Bool) → is_kept V ≡ b → ByLast (e ∷ h) o c f (cond b (kept high S1.target bytes) not_kept)
    last true x = (was_put, kept_not x, high_low, goal_low, bytes_low)
    last false x =
        let q = or_parts (is_bare V) V.keep x in
        (ran_now e h o c G.runs, (full_is q.0, sym z.keep ∙ sym G.keep ∙ q.1))

    opens : shuts S1 i V ≡ false → run_open S1 i ≡ true
    opens x = and_from V.is_open (not (shuts S1 i V)) G.is_open (not_from_false (shuts S1 i V) x)

    ready : Ready i E Y
    ready = ⊎_elim shut (λ x. inl (opens x)) (cases_Bool (shuts S1 i V))
      where
        shut : shuts S1 i V ≡ true → Ready i E Y
        shut x =
            let q = and_parts (is_bare V) (ltb V.highest i && ltb S1.target i) x in
            let r = and_parts (ltb V.highest i) (ltb S1.target i) q.1 in
            inr (record {
              call = G.held;
              is = G.holds;
              part = G.held_part ∙ ap (λ y. ltb y i) (G.held_highest ∙ sym G.highest) ∙ r.0;
              level = sym G.level ∙ sym G.number;
              high = high;
              goal = S1.target;
              bytes = bytes;
              ran = cond-true (is_kept V) (kept high S1.target bytes) not_kept (or_left (is_bare V) V.keep q.0);
              below = ltb-true S1.target i r.1;
            })

    up_to : i ≤ here.S.target → run_open S1 i ≡ true
    up_to le = opens (and_right (is_bare V) (ltb V.highest i && ltb S1.target i) (and_right (ltb V.highest i) (ltb S1.target i) (le-ltb S1.target i (omega (arith, le, G.goal)))))

    working : Working P first h m inv e t o c f z st Y
    working = record {
      no_order = G.no_order;
      no_open = G.no_open;
      no_end = G.no_end;
      no_reply = G.no_reply;
      only_hears = G.only_hears;
      only_resumes = G.only_resumes;
      only_runs = λ u d g. G.only_runs u o d g;
      number = G.number;
      level = G.level;
      grows = G.grows;
      next = G.next;
      below_ran = G.below_ran;
      heard_now = G.heard_now;
      holds = record { highest = G.highest; keep = G.keep; body = G.body; last = last (is_kept V) refl };
      ready = ready;
      target = up_to;
      held = (G.held, G.holds);
      put_target = put_target;
    }
      where
        put_target : (hi goal : ℕ) (b : Bytes) → goal ≤ 15 → Put (e ∷ h) o c (reply_message (result f hi goal b)) → Put h o c (reply_message (result f hi goal b)) ⊎ (goal ≡ here.S.target)
        put_target hi goal b fg pu = ⊎_elim inl (λ q. inr (same_reply_target (result f hi goal b) (result f high S1.target bytes) (omega (arith, fg)) (omega (arith, goal_low)) (some_same _ _ (sym q.1 ∙ G.put)) ∙ G.goal)) (put_new e h o c (reply_message (result f hi goal b)) pu)

    abbrev server' : ServerM
    server' = record { boot = m.server.boot; count = m.server.count; sessions = set m.server.sessions c.terminal (Some (with_slot here.S i Y)) }

    -- one run at a time
    only : (u v : ℕ) (d : Call) → Ordered h u d → Session h d.terminal v u → Runs h e v d → u ≡ t
    only u v d or se r =
        let k = inv.calls.known u d or in
        let vs : k.0 ≡ v = session_one h d.terminal k.0 v u k.2.session se in
        G.only_runs u v d k.1 (subst (λ x. Known h u x d k.1) vs k.2) r

    done : (b : Bool) → is_bare V ≡ b → (qs : P.requests.State) (rs : P.replies.State) → Done P first (e ∷ h) (record { server = server'; terminals = m.terminals; content = cond b m.content (P.service.next m.content V.body); requests = qs; replies = rs })
    done true x qs rs = record {
      list = inv.done.list;
      runs = runs_on P.service.next P.service.reply request_message reply_message e h (λ d v y r. G.no_order d y) inv.done.list none (λ v d y r. G.no_order d y) inv.done.runs;
      reach = inv.done.reach;
    }
      where
        none : (u v : ℕ) (d : Call) → Ordered h u d → Session h d.terminal v u → 0 < length d.body → Runs h e v d → ⊥
        none u v d or se bod r =
            let ts = only u v d or se r in
            let ds : d ≡ c = ordered_one h t d c (subst (λ y. Ordered h y d) ts or) z.ordered in
            omega (arith, bare_is x, bod, ap (λ y. length y.body) ds)
    done false x qs rs = record {
      list = inv.done.list ++ (record { time = t; call = c } ∷ []);
      runs = runs_push P.service.next P.service.reply request_message reply_message e h G.no_order inv.done.list inv.done.runs t o c z.ordered z.session (full_is x) G.runs only;
      reach = after_push P.service.next P.service.reply request_message reply_message first inv.done.list (record { time = t; call = c }) ∙ ap (λ k. P.service.next k c.body) inv.done.reach ∙ ap (P.service.next m.content) (sym body_is);
    }

    answers : Answers (e ∷ h) o c f (result f high S1.target bytes)
    answers = record { permitted = record { head = z.fits.0; known = refl; low = omega arith; highest = high_low; target = goal_low; short = bytes_low }; id = refl; number = refl; slot = refl; by_status = inl (refl, was_put) }

    -- the house after the run, its reply put
    pub running_inv : (qs : P.requests.State) → ((b : Bytes) → In b (P.requests.waits qs) → In b (P.requests.waits m.requests)) → ((a : Told) (room : ℕ) (b : Bytes) → e.asked ≡ asked_hear a room → e.took ≡ Some b → b ≡ c.request) → Inv P first (e ∷ h) (record { server = record { boot = m.server.boot; count = m.server.count; sessions = set m.server.sessions c.terminal (Some (with_slot (standing P first h m inv c.terminal o st).S f.slot (finished S1 f.slot (run_bytes P.service m.content (slot_at S1 f.slot))))) }; terminals = m.terminals; content = run_content P.service m.content (slot_at S1 f.slot); requests = qs; replies = P.replies.puts m.replies (reply_message (result f (run_highest S1 f.slot) S1.target (run_bytes P.service m.content (slot_at S1 f.slot)))) })
    running_inv qs asks takes = working_inv P first h m inv e t o c f z st Y working (run_content P.service m.content V) qs (P.replies.puts m.replies (reply_message (result f high S1.target bytes))) asks (λ b j. ⊎_elim (λ q. inr (result f high S1.target bytes, q.0, answers)) inl (laws.replies.put_keeps m.replies (reply_message (result f high S1.target bytes)) b j)) takes (done (is_bare V) refl qs (P.replies.puts m.replies (reply_message (result f high S1.target bytes))))
