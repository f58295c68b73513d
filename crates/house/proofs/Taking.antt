-- A reply is taken and handed over.
use Rattle.std.proofs.Common.{◌≡◌, ℕ, Bool, true, false, cond, List, get_or, set, Some, None, Ok, Err, Option, Result, sym, refl, ap, arith}
use Rattle.std.proofs.lemmas.Bool.{cond-false}
use Rattle.common.specs.Bytes.{Bytes}
use Rattle.common.specs.Search.{when_found, lowest_at}
use Rattle.channel.specs.Channel as channel
use Rattle.wire.specs.Wire.{Reply, Refusal, read_reply, no_call}
use Rattle.terminal.specs.Terminal.{TerminalM, Effect, end_at, belongs, reply_effect, accept_effect, after_accept, after_effect}
use Rattle.exactly_once.specs.History.{taken}
use Rattle.exactly_once.specs.Steps.{Parts, Model, Step, terminal_at, bears, refuse, take_stops, take_effect, take_at, take_read, take_step}
use Rattle.house.specs.Took.{took}
use Rattle.house.specs.Takes.{accepts, settled, Handing, unclaimed, claimed_by, handed_in, handed, received}
use Rattle.house.proofs.Took.{by_took, takes}

-- a reply that belongs to no open call alters no record
after_none : (t : TerminalM) (r : Reply) → belongs t r ≡ false → after_accept t r ≡ t
unfolding after_accept
after_none t r e = cond-false (belongs t r) (when_found t (λ c. after_effect t c r (reply_effect r)) (end_at t r.slot).call) t e

-- what a reply does, by its effect on the record at p
module _ (ts : List (Option TerminalM)) (r : Reply) (p : ℕ) where
  pub record Refused (o : Option TerminalM) (e : Refusal) : Type 0 where
    pub is : e ≡ no_call
    pub none : handed_in ts r p o ≡ unclaimed ts
    pub stays : settled o r ≡ o

  pub refused : (o : Option TerminalM) (e : Refusal) → Err e ≡ accepts o r → Refused o e
  refused None e is = record { is = cc; none = refl; stays = refl }
  refused (Some t) e is = go (belongs t r) refl is
    where
      made : belongs t r ≡ false → e ≡ no_call → when_found (unclaimed ts) (claimed_by ts r p t) (accept_effect t r) ≡ unclaimed ts → Refused (Some t) e
      made f is none = record { is = is; none = none; stays = ap Some (after_none t r f) }

      go : (b : Bool) → belongs t r ≡ b → Err e ≡ when_found (Err no_call) Ok (cond b (Some (reply_effect r)) None) → Refused (Some t) e
      go true f is = absurd (let z : ◌≡◌ {A = ℕ} 0 1 = cc in omega arith)
      go false f is = made f (cc) (ap (when_found (unclaimed ts) (claimed_by ts r p t)) (cond-false (belongs t r) (Some (reply_effect r)) None f))

  pub claimed : (o : Option TerminalM) (x : Effect) → Ok x ≡ accepts o r → handed_in ts r p o ≡ record { records = set ts p (settled o r); answer = taken p r.slot x }
  claimed None x is = absurd (let z : ◌≡◌ {A = ℕ} 0 1 = cc in omega arith)
  claimed (Some t) x is = go (accept_effect t r) is
    where
      go : (o : Option Effect) → Ok x ≡ when_found (Err no_call) Ok o → when_found (unclaimed ts) (claimed_by ts r p t) o ≡ claimed_by ts r p t x
      go None is = absurd (let z : ◌≡◌ {A = ℕ} 0 1 = cc in omega arith)
      go (Some y) is = let same : y ≡ x = cc in ap (claimed_by ts r p t) same

pub handed_at : (ts : List (Option TerminalM)) (r : Reply) (p : ℕ) → Some p ≡ lowest_at (bears r) ts 0 → handed ts r ≡ handed_in ts r p (get_or ts p None)
handed_at ts r p found = ap (when_found (unclaimed ts) (λ p. handed_in ts r p (get_or ts p None))) (sym found)

-- the step of a take
module _ (P : Parts) (m : Model P) where
  -- the house with other records and other replies
  abbrev pub with_taken : List (Option TerminalM) → P.replies.State → Model P
  with_taken ts rs = record { server = m.server; terminals = ts; content = m.content; requests = m.requests; replies = rs }

  -- by what was taken
  abbrev pub took_by : P.replies.State → Result Bytes Refusal → Step P
  took_by = by_took P.replies (λ rs. refuse P (with_taken m.terminals rs)) (λ rs b. take_read P (with_taken m.terminals rs) b (read_reply b))

  pub take_is : (room : ℕ) → take_step P m room ≡ took_by (channel.take_step P.replies m.replies room) (took P.replies m.replies room)
  unfolding take_step
  take_is room = takes P.replies (λ rs. refuse P (with_taken m.terminals rs)) (λ rs b. take_read P (with_taken m.terminals rs) b (read_reply b)) m.replies room

  -- the step of a reply, by the records after it and its answer
  module _ (rs : P.replies.State) (b : Bytes) where
    abbrev pub step_by : Handing → Step P
    step_by x = record { after = with_taken x.records rs; answer = x.answer; put = None; took = Some b }

    hands_effect : (r : Reply) (p : ℕ) (t : TerminalM) (x : Option Effect) → when_found (take_stops P (with_taken m.terminals rs) b no_call) (take_effect P (with_taken m.terminals rs) b p r t) x ≡ step_by (when_found (unclaimed m.terminals) (claimed_by m.terminals r p t) x)
    hands_effect r p t None = refl
    hands_effect r p t (Some e) = refl

    hands_in : (r : Reply) (p : ℕ) (o : Option TerminalM) → when_found (take_stops P (with_taken m.terminals rs) b no_call) (λ (t : TerminalM). when_found (take_stops P (with_taken m.terminals rs) b no_call) (take_effect P (with_taken m.terminals rs) b p r t) (accept_effect t r)) o ≡ step_by (handed_in m.terminals r p o)
    hands_in r p None = refl
    hands_in r p (Some t) = hands_effect r p t (accept_effect t r)

    hands : (r : Reply) (o : Option ℕ) → when_found (take_stops P (with_taken m.terminals rs) b no_call) (take_at P (with_taken m.terminals rs) b r) o ≡ step_by (when_found (unclaimed m.terminals) (λ p. handed_in m.terminals r p (get_or m.terminals p None)) o)
    hands r None = refl
    hands r (Some p) = hands_in r p (terminal_at P m p)

    pub reads : (x : Result Reply Refusal) → take_read P (with_taken m.terminals rs) b x ≡ step_by (received m.terminals x)
    reads (Ok r) = hands r (lowest_at (bears r) m.terminals 0)
    reads (Err e) = refl
