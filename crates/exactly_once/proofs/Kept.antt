-- Every house keeps its promise, after every history.
use Rattle.wire.specs.Wire.{request_message, reply_message}
use Rattle.exactly_once.specs.History.{History}
use Rattle.exactly_once.specs.Promise.{KeptPromise}
use Rattle.exactly_once.specs.Steps.{Parts, Model}
use Rattle.exactly_once.specs.Lived as lived
use Rattle.exactly_once.specs.Lived.{PartsLaws, Lived, ends, Keeps}
use Rattle.exactly_once.proofs.Invariant.{Inv}
use Rattle.exactly_once.proofs.Present.{rests, equal, usable_open, ahead, level}
use Rattle.exactly_once.proofs.Onelist.{runs_reach}
use Rattle.exactly_once.proofs.Histories.{step_keeps, lived_inv}
use Rattle.exactly_once.proofs.Past.{Past, past_made}
use Rattle.exactly_once.proofs.Onward.{past_grows}
use Rattle.exactly_once.proofs.Explained.{explained}

-- the promise from the invariant and from what holds of all times
pub promised : (P : Parts) (first : P.service.Content) (h : History) (m : Model P) → Inv P first h m → Past P first h → KeptPromise P.service.next P.service.reply request_message reply_message h first (ends P m) m.content
promised P first h m inv past = record {
  -- what the service has done
  explained = explained P first h m inv past;
  runs = past.runs;
  runs_reach = runs_reach P first h m inv;
  -- what a call can count on
  orders = past.orders;
  sends = λ t c z. (let k = inv.calls.known t c z in (k.1, (k.2.message, k.2.slot, k.2.keep, k.2.body)));
  served = past.serves;
  results = past.results;
  -- how the two ends agree
  rests = λ p o s st le. rests P first h m inv p o s st;
  equal = λ p o s st le. equal P first h m inv p o s st;
  usable_open = λ p o s st le. usable_open P first h m inv p o s st;
  ahead = λ t o c or op se st. ahead P first h m inv t o c or op se st;
  level = λ t o c or op se st. level P first h m inv t o c or op se st;
}

module _ (P : Parts) (laws : PartsLaws P) where
  -- what holds of all times of a history
  always : (first : P.service.Content) {h : History} {m : Model P} → Lived P first h m → Past P first h
  always first (lived.made f) = past_made P first
  always first (lived.met {h = h} {m = m} a l e) =
      let inv = lived_inv P laws first l in
      past_grows P laws first h m inv a (step_keeps P laws first h m inv a) (always first l)

  pub keeps : Keeps P
  keeps first h m l = promised P first h m (lived_inv P laws first l) (always first l)
