-- What order, part and resend have in common.
use Rattle.std.proofs.Common.{◌≡◌, ℕ, ◌<◌, ◌≤◌, Bool, true, false, cond, ltb, List, length, get_or, set, Some, None, Ok, Err, Option, Result, sym, refl, ap, ◌∙◌, ap₂, arith}
use Rattle.std.proofs.lemmas.List.{set-get_or}
use Rattle.std.proofs.lemmas.Bool.{cond-true, cond-false, lt-ltb, le-ltb}
use Rattle.common.specs.Bytes.{Bytes}
use Rattle.common.specs.Search.{when_found}
use Rattle.service.specs.declared.Service as service
use Rattle.channel.specs.declared.Channel as channel
use Rattle.channel.specs.Channel.{laid}
use Rattle.wire.specs.declared.refusals.Refusal.{Refusal as CodeRefusal}
use Rattle.wire.specs.Wire.{Refusal, short_scratch, no_terminal, no_open_call}
use Rattle.terminal.specs.declared.sends.Sent.{Sent}
use Rattle.terminal.specs.Terminal.{TerminalM, OpenCall, Sending, resent, end_at, resend_sends, after_sending}
use Rattle.terminal.specs.Sends.{in_scratch, told, message_of}
use Rattle.exactly_once.specs.History.{Answer}
use Rattle.exactly_once.specs.Houses.{parts}
use Rattle.exactly_once.specs.Steps.{Parts, Model, Step, terminal_at, with_terminal, put_request, refuse, send_by, send_step}
use Rattle.house.specs.declared.state.House.{House}
use Rattle.house.specs.Answers.{answer_by}
use Rattle.house.specs.Houses.{house_state}
use Rattle.house.specs.Sends.{sends_in, place_after, placed, SentBy}

resend_by : (t : TerminalM) (a b : Bool) (i : ℕ) (o : Option OpenCall) → t ≡ after_sending t (cond a (Err short_scratch) (cond b (Err no_open_call) (when_found (Err no_open_call) (λ c. Ok (resent t i c)) o)))
resend_by t true b i o = refl
resend_by t false true i o = refl
resend_by t false false i None = refl
resend_by t false false i (Some c) = refl

-- a resend leaves the terminal as it is
pub resend_stays : (t : TerminalM) (room i : ℕ) → t ≡ after_sending t (in_scratch room (resend_sends t i))
unfolding resend_sends
resend_stays t room i = resend_by t (ltb room 304) (ltb 15 i) i (end_at t i).call

pub some_after : (t : TerminalM) (x : Result Sending Refusal) → Some (after_sending t x) ≡ place_after (Some t) x
some_after t (Ok s) = refl
some_after t (Err e) = refl

pub placed_is : (ts : List (Option TerminalM)) (p : ℕ) (x : Result Sending Refusal) → set ts p (place_after (get_or ts p None) x) ≡ placed ts p x
placed_is ts p (Ok s) = refl
placed_is ts p (Err e) = set-get_or ts p None

-- what an answer tells of what was sent
pub told_err : (x : Result Sending Refusal) (e : Refusal) → Err e ≡ told x → x ≡ Err e
told_err (Ok s) e is = absurd (let z : ◌≡◌ {A = ℕ} 0 1 = cc in omega arith)
told_err (Err f) e is = let same : f ≡ e = cc in ap Err same

pub told_ok : (x : Result Sending Refusal) (r : Sent) → Ok r ≡ told x → (s : Sending) × (x ≡ Ok s) × (r ≡ record { slot = s.slot; len = length s.message })
told_ok (Ok s) r is = (s, refl, cc)
told_ok (Err f) r is = absurd (let z : ◌≡◌ {A = ℕ} 0 1 = cc in omega arith)

pub message_is : (x : Result Sending Refusal) (b : Bytes) (s : Sending) → Ok b ≡ message_of x → x ≡ Ok s → b ≡ s.message
message_is (Ok u) b s is e = let same : u ≡ s = cc in let here : b ≡ u.message = cc in here ∙ ap (λ (v : Sending). v.message) same
message_is (Err f) b s is e = absurd (let z : ◌≡◌ {A = ℕ} 0 1 = cc in omega arith)

-- the step of a call that sends
module _ (P : Parts) (m : Model P) (p room : ℕ) (say : ℕ → Answer) (send : TerminalM → Result Sending Refusal) where
  pub send_short : room < 304 → send_step P m p room say send ≡ refuse P m short_scratch
  unfolding send_step
  send_short h = cond-true (ltb room 304) (refuse P m short_scratch) (when_found (refuse P m no_terminal) (λ (t : TerminalM). send_by P m p say (send t)) (terminal_at P m p)) (lt-ltb room 304 h)

  send_in : (o : Option TerminalM) → 304 ≤ room → when_found (refuse P m no_terminal) (λ (t : TerminalM). send_by P m p say (send t)) o ≡ send_by P m p say (sends_in room send o)
  send_in None h = refl
  send_in (Some t) h = ap (send_by P m p say) (sym (cond-false (ltb room 304) (Err short_scratch) (send t) (le-ltb room 304 h)))

  pub send_is : 304 ≤ room → send_step P m p room say send ≡ send_by P m p say (sends_in room send (terminal_at P m p))
  unfolding send_step
  send_is h = cond-false (ltb room 304) (refuse P m short_scratch) (when_found (refuse P m no_terminal) (λ (t : TerminalM). send_by P m p say (send t)) (terminal_at P m p)) (le-ltb room 304 h) ∙ send_in (terminal_at P m p) h

  -- by why nothing was sent
  pub send_refused : (e : Refusal) → 304 ≤ room → sends_in room send (terminal_at P m p) ≡ Err e → send_step P m p room say send ≡ refuse P m e
  send_refused e h is = send_is h ∙ ap (send_by P m p say) is

  -- or by what was
  module _ (s : Sending) (h : 304 ≤ room) (is : sends_in room send (terminal_at P m p) ≡ Ok s) where
    pub send_sent : send_step P m p room say send ≡ send_by P m p say (Ok s)
    send_sent = send_is h ∙ ap (send_by P m p say) is

-- the house after it: the record at p and the requests
module _ (P : Parts) (m : Model P) (p : ℕ) (s : Sending) where
  with_sent : List (Option TerminalM) → P.requests.State → Model P
  with_sent ts qs = record { server = m.server; terminals = ts; content = m.content; requests = qs; replies = m.replies }

  pub goes : (ts : List (Option TerminalM)) (qs : P.requests.State) (b : Bytes) → ts ≡ placed m.terminals p (Ok s) → qs ≡ P.requests.puts m.requests b → b ≡ s.message → record { server = m.server; terminals = ts; content = m.content; requests = qs; replies = m.replies } ≡ put_request P (with_terminal P m p s.after) s.message
  unfolding with_sent
  goes ts qs b records put message = ap₂ with_sent records (put ∙ ap (P.requests.puts m.requests) message)

-- a terminal sent, by the step written out
pub sent_by : {S Q R : Type 0} {s : service.Ghosts S} {q : channel.Ghosts Q} {r : channel.Ghosts R} {before after : House S Q R} {scratch scratch_then : Bytes} {p : ℕ} {say : ℕ → Answer} {send : TerminalM → Result Sending Refusal} {result : Result ℕ CodeRefusal} {step : Step (parts s q r)} → send_step (parts s q r) (house_state s q r before) p (length scratch) say send ≡ step → answer_by say result ≡ step.answer → house_state s q r after ≡ step.after → scratch_then ≡ laid step.put scratch → SentBy s q r before after scratch scratch_then p say send result
sent_by {s} {q} {r} {scratch} e answer state put = record {
  answer = answer ∙ ap (λ (x : Step (parts s q r)). x.answer) (sym e);
  state = state ∙ ap (λ (x : Step (parts s q r)). x.after) (sym e);
  put = put ∙ ap (λ (x : Step (parts s q r)). laid x.put scratch) (sym e);
}
