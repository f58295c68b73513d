-- Hear keeps the invariant wherever it finds no new call: nothing waits, 10052, 10063, 10008, 10068, an old outcome.
use Rattle.std.proofs.Common.{◌≡◌, ℕ, ◌+◌, ◌<◌, ◌≤◌, Bool, true, false, cond, not, ◌&&◌, eqb, ltb, [], ◌∷◌, length, Some, None, Option, sym, refl, ap, ◌∙◌, subst, inl, inr, ⊎_elim, arith}
use Rattle.std.proofs.lemmas.Bool.{and_from, and_left, and_right, eq-eqb, ne_eqb, le-ltb, or_from, cases_lt, cases_eq, not_from_false, cond-true, cond-false}
use Rattle.std.specs.Str.{bytes_eq}
use Rattle.common.specs.Bytes.{Bytes}
use Rattle.common.specs.Search.{In}
use Rattle.wire.specs.Wire.{Request, Reply, refusing, nothing_waits, reply_message, is_status, FitsRequest}
use Rattle.server.specs.Server as server
use Rattle.server.specs.Server.{SessionM, SlotM, Last, never, in_progress, kept, not_kept, is_working, slot_at, session_of, Verdict, new, is_repeat, is_new, is_same, same_flag, judge, judge_last, bad_highest, verdict, Serving, serve_by}
use Rattle.terminal.specs.Terminal.{TerminalM, OpenCall, end_at}
use Rattle.exactly_once.specs.History.{Told, asked_hear, Answer, status, again, History}
use Rattle.exactly_once.specs.Words.{Call, Stands, Open, HeardBefore}
use Rattle.exactly_once.specs.Steps.{Parts, Model, Step, refuse, rest_requests, hear_says, hear_served, with_server}
use Rattle.exactly_once.specs.Lived.{PartsLaws}
use Rattle.exactly_once.proofs.Messages.{PermittedReply}
use Rattle.exactly_once.proofs.Tables.{some_same, some_none}
use Rattle.exactly_once.proofs.Invariant.{Known, result, ByLast, pend, Answers, ByStatus, TerminalSide, ServerSide, BothSides, Inv}
use Rattle.exactly_once.proofs.Carry.{Quiet}
use Rattle.exactly_once.proofs.Present.{call_cases, standing, one_call, held_is}
use Rattle.exactly_once.proofs.Quiet.{quiet_inv, refused_quiet, refused_calm, took_none, Good}

flag_refl : (a b : Bool) → a ≡ b → same_flag a b ≡ true
flag_refl true b e = sym e
flag_refl false b e = ap not (sym e)

bytes_refl : (a b : Bytes) → a ≡ b → bytes_eq a b ≡ true
bytes_refl a b e = subst (λ x. bytes_eq a x ≡ true) e (go a)
  where
    go : (x : Bytes) → bytes_eq x x ≡ true
    go [] = refl
    go (x ∷ xs) = and_from (eqb x x) (bytes_eq xs xs) (eq-eqb x x refl) (go xs)

-- a status that may be sent
plain_permitted : (f : Request) → FitsRequest f → (n : ℕ) → is_status n ≡ true → n < 4294967296 → PermittedReply (refusing f n)
plain_permitted f fits n known low = record { head = fits.0; known = known; low = low; highest = omega arith; target = omega arith; short = omega arith }

-- a new call, as it is heard
pub record NewCall (h : History) (t o : ℕ) (c : Call) (f : Request) (T : TerminalM) (S : SessionM) : Type 0 where
  pub next : f.number ≡ (slot_at S f.slot).number + 1
  pub idle : is_working (slot_at S f.slot).last ≡ false
  pub is_open : (slot_at S f.slot).is_open ≡ true
  pub level : f.number ≡ (end_at T f.slot).number
  pub held : OpenCall
  pub holds : (end_at T f.slot).call ≡ Some held
  pub open_call : Open h t c (length h)

working_pend : (x : SlotM) → pend x ≡ 0 → is_working x.last ≡ false
working_pend x e = go (is_working x.last) e
  where
    go : (b : Bool) → ◌≡◌ {A = ℕ} (cond b 1 0) 0 → b ≡ false
    go true z = absurd (omega (arith, z))
    go false z = refl

module _ (P : Parts) (laws : PartsLaws P) (first : P.service.Content) (h : History) (m : Model P) (inv : Inv P first h m) (told : Told) (room : ℕ) where
  abbrev m1 : Model P
  m1 = rest_requests P m

  rested : (b : Bytes) → In b (P.requests.waits (P.requests.rests m.requests)) → In b (P.requests.waits m.requests)
  rested b i = laws.requests.rest_waited m.requests b i

  pub nothing : Good P first h (asked_hear told room) (refuse P m1 nothing_waits)
  nothing = quiet_inv P first _ h m (refused_quiet h (asked_hear told room) 13 0 None) inv (refused_calm (asked_hear told room) 13 0 None None) (λ w r b x y. absurd (took_none b y)) (P.requests.rests m.requests) m.replies (λ b i. inl (rested b i)) (λ b i. inl i)

  module _ (t o : ℕ) (c : Call) (f : Request) (z : Known h t o c f) where
    -- a copy heard again, or of a session that does not stand, is quiet
    again_quiet : (n : Answer) (b : Option Bytes) → (Stands h c.terminal o (length h) → HeardBefore h o c (length h)) → Quiet h (record { asked = asked_hear told room; answer = n; put = b; took = Some c.request })
    again_quiet n b heard = record {
      no_order = λ d w. ⊎_elim (λ y. (let x = y.1 in let v : ◌≡◌ {A = ℕ} 0 1 = cc in omega arith)) (λ y. (let x = y.1 in let v : ◌≡◌ {A = ℕ} 0 1 = cc in omega arith)) w.2;
      no_open = λ q w. (let x = w.1 in let v : ◌≡◌ {A = ℕ} 0 1 = cc in omega arith);
      no_reply = λ d g w. (let x = w.1 in let v : ◌≡◌ {A = ℕ} 0 1 = cc in omega arith);
      no_resume = λ q s w. (let x = w.1 in let v : ◌≡◌ {A = ℕ} 0 1 = cc in omega arith);
      heard_again = λ u v d g w k y st. heard_again u v d g k (some_same c.request d.request y.2) st;
    }
      where
        heard_again : (u v : ℕ) (d : Call) (g : Request) → Known h u v d g → c.request ≡ d.request → Stands h d.terminal v (length h) → HeardBefore h v d (length h)
        heard_again u v d g k e st =
            let w = one_call P first h m inv t u o v c d f g z k e in
            subst (λ x. HeardBefore h v x (length h)) w.2 (subst (λ x. HeardBefore h x c (length h)) w.1 (heard (subst (λ x. Stands h c.terminal x (length h)) (sym w.1) (subst (λ x. Stands h x.terminal v (length h)) (sym w.2) st))))

    says_good : (n : Answer) (r : Reply) → Answers h o c f r → (Stands h c.terminal o (length h) → HeardBefore h o c (length h)) → Good P first h (asked_hear told room) (hear_says P m1 c.request n r)
    says_good n r an heard =
        quiet_inv P first _ h m (again_quiet n (Some (reply_message r)) heard) inv (λ q w. (let x = w.0 in let v : ◌≡◌ {A = ℕ} 0 1 = cc in omega arith)) (λ w k b x y. (t, o, c, f, z, sym (some_same c.request b y))) (P.requests.rests m.requests) (P.replies.puts m.replies (reply_message r)) (λ b i. inl (rested b i)) (λ b i. ⊎_elim (λ q. inr (t, o, c, f, r, z, q.0, an)) inl (laws.replies.put_keeps m.replies (reply_message r) b i))

    plain_good : (n : ℕ) → is_status n ≡ true → n < 4294967296 → ByStatus h o c f (refusing f n) → (Stands h c.terminal o (length h) → HeardBefore h o c (length h)) → Good P first h (asked_hear told room) (hear_says P m1 c.request (status n) (refusing f n))
    plain_good n known low by heard = says_good (status n) (refusing f n) (record { permitted = plain_permitted f z.fits n known low; id = refl; number = refl; slot = refl; by_status = by }) heard

    -- the step made of what serve gave
    abbrev step : Serving → Step P
    step s = hear_served P (with_server P m1 s.after) c.request told s.answer

    -- the session does not stand
    pub gone : session_of m.server f.id ≡ None → Good P first h (asked_hear told room) (step (record { answer = server.says (refusing f 10052); after = m.server }))
    gone e = plain_good 10052 refl (omega arith) (inr (inr (inl (refl, never_stands)))) (λ st. absurd (never_stands st))
      where
        never_stands : Stands h c.terminal o (length h) → ⊥
        never_stands st =
            let w = standing P first h m inv c.terminal o st in
            some_none w.S (sym w.lookup ∙ ap (session_of m.server) (w.TId ∙ sym (inv.calls.named t o c f z)) ∙ e)

    module _ (st : Stands h c.terminal o (length h)) (T : TerminalM) (S : SessionM) (tside : TerminalSide h o T) (side : ServerSide h o S) (both : BothSides h o T S) where
      abbrev x : SlotM
      x = slot_at S f.slot

      heard_if : f.number ≤ x.number → Stands h c.terminal o (length h) → HeardBefore h o c (length h)
      heard_if le s = side.low_heard t c f z le

      -- it repeats the slot's last call
      repeats : f.number ≡ x.number → (l : Last) → x.last ≡ l → ByLast h o c f l → Good P first h (asked_hear told room) (step (serve_by (judge_last l) m.server S f))
      repeats e never g b = absurd b
      repeats e in_progress g b = plain_good 10008 refl (omega arith) (inr (inr (inr refl))) (heard_if (omega (arith, e)))
      repeats e (kept high goal y) g b = says_good again (result f high goal y) (record { permitted = record { head = z.fits.0; known = refl; low = omega arith; highest = b.2; target = b.3; short = b.4 }; id = refl; number = refl; slot = refl; by_status = inl (refl, b.0) }) (heard_if (omega (arith, e)))
      repeats e not_kept g b = plain_good 10068 refl (omega arith) (inr (inl (refl, b.0, b.1, refl))) (heard_if (omega (arith, e)))

      in_table : verdict S f ≡ judge x f
      in_table = cond-false (ltb 15 f.slot) _ _ (le-ltb 15 f.slot (inv.calls.placed t o c f z).0)

      pub verdict_repeat : f.number ≡ x.number → verdict S f ≡ judge_last x.last
      verdict_repeat e =
          let hold = side.last_holds t c f z e in
          let one = inv.calls.numbered t o c f z in
          in_table
          ∙ cond-true (is_repeat x f) _ _ (and_from (eqb f.number x.number) (not (eqb f.number 0)) (eq-eqb _ _ e) (not_from_false (eqb f.number 0) (ne_eqb f.number 0 (λ w. omega (arith, w, one)))))
          ∙ cond-true (is_same x f) _ _ (and_from (eqb x.highest f.highest) (same_flag x.keep f.keep && bytes_eq x.body f.body) (eq-eqb _ _ hold.highest) (and_from (same_flag x.keep f.keep) (bytes_eq x.body f.body) (flag_refl _ _ hold.keep) (bytes_refl _ _ hold.body)))

      verdict_old : f.number < x.number → verdict S f ≡ server.refuse 10063
      verdict_old lt =
          in_table
          ∙ cond-false (is_repeat x f) _ _ (and_left (eqb f.number x.number) (not (eqb f.number 0)) (ne_eqb _ _ (λ w. omega (arith, w, lt))))
          ∙ cond-false (is_new x f) _ _ (and_left (eqb f.number (x.number + 1)) (not (is_working x.last)) (ne_eqb _ _ (λ w. omega (arith, w, lt))))

      -- it is the next call of the slot
      pub fresh_call : x.number < f.number → NewCall h t o c f T S
      fresh_call lt =
          let low = tside.low t c f z in
          let cl = both.close f.slot in
          let near = cl.near in
          let next : f.number ≡ x.number + 1 = omega (arith, low, near, lt) in
          let none : pend x ≡ 0 = omega (arith, low, near, lt) in
          let level : f.number ≡ (end_at T f.slot).number = omega (arith, low, near, lt) in
          ⊎_elim (λ k. absurd (omega (arith, cl.free k, low, lt))) (λ k. make next none level k.0 k.1) (call_cases (end_at T f.slot))
        where
          make : f.number ≡ x.number + 1 → pend x ≡ 0 → f.number ≡ (end_at T f.slot).number → (k : OpenCall) → (end_at T f.slot).call ≡ Some k → NewCall h t o c f T S
          make next none level k e =
              record { next = next; idle = working_pend x none; is_open = ⊎_elim (λ y. y) (λ y. absurd (omega (arith, y.level, level, next))) (both.usable_ready f.slot (tside.held_usable f.slot k e)); level = level; held = k; holds = e; open_call = held_is P first h m inv t o c f T tside z level k e }

      pub verdict_new : NewCall h t o c f T S → verdict S f ≡ new
      verdict_new g =
          let nx = g.next in
          in_table
          ∙ cond-false (is_repeat x f) _ _ (and_left (eqb f.number x.number) (not (eqb f.number 0)) (ne_eqb _ _ (λ w. omega (arith, w, nx))))
          ∙ cond-true (is_new x f) _ _ (and_from (eqb f.number (x.number + 1)) (not (is_working x.last)) (eq-eqb _ _ nx) (not_from_false _ g.idle))
          ∙ cond-true x.is_open _ _ g.is_open
          ∙ cond-false (bad_highest f) _ _ (or_from (ltb 15 f.highest) (ltb f.highest f.slot && ltb 0 (length f.body)) (le-ltb 15 f.highest (inv.calls.placed t o c f z).1) (⊎_elim (λ le. and_left (ltb f.highest f.slot) (ltb 0 (length f.body)) (le-ltb _ _ le)) (λ em. and_right (ltb f.highest f.slot) (ltb 0 (length f.body)) (le-ltb 0 (length f.body) (omega (arith, ap length em)))) (inv.calls.formed t o c f z)))

      -- by the slot's number
      pub served : (NewCall h t o c f T S → Good P first h (asked_hear told room) (step (serve_by new m.server S f))) → Good P first h (asked_hear told room) (step (serve_by (verdict S f) m.server S f))
      served works = ⊎_elim same differ (cases_eq f.number x.number)
        where
          by : (v : Verdict) → verdict S f ≡ v → Good P first h (asked_hear told room) (step (serve_by v m.server S f)) → Good P first h (asked_hear told room) (step (serve_by (verdict S f) m.server S f))
          by v e g = subst (λ y. Good P first h (asked_hear told room) (step (serve_by y m.server S f))) (sym e) g

          same : f.number ≡ x.number → Good P first h (asked_hear told room) (step (serve_by (verdict S f) m.server S f))
          same e = by (judge_last x.last) (verdict_repeat e) (repeats e x.last refl (side.last_holds t c f z e).last)

          differ : (f.number ≡ x.number → ⊥) → Good P first h (asked_hear told room) (step (serve_by (verdict S f) m.server S f))
          differ ne = ⊎_elim (λ lt. by (server.refuse 10063) (verdict_old lt) (plain_good 10063 refl (omega arith) (inr (inr (inr refl))) (heard_if (omega (arith, lt))))) (λ le. later (omega (arith, ne, le))) (cases_lt f.number x.number)
            where
              later : x.number < f.number → Good P first h (asked_hear told room) (step (serve_by (verdict S f) m.server S f))
              later lt = by new (verdict_new (fresh_call lt)) (works (fresh_call lt))
