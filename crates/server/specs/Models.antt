-- What the server's records stand for. Which tray a slot owns is left out: only the bytes in it are told.
use Rattle.std.specs.Prelude.{Bool, false, List, map, is_some, Some, None, Option}
use Rattle.std.specs.Borrow.{Bor}
use Rattle.std.specs.Option.{option_map}
use Rattle.common.specs.Bytes.{Bytes}
use Rattle.wire.specs.declared.messages.SessionId.{SessionId as CodeId}
use Rattle.wire.specs.Wire.{Reply, same_id}
use Rattle.wire.specs.Models.{id_model, status_number}
use Rattle.server.specs.declared.records.Tray.{Tray}
use Rattle.server.specs.declared.records.Last.{Last as CodeLast}
use Rattle.server.specs.declared.records.Last.TheVariants.{Never, InProgress, Kept, NotKept}
use Rattle.server.specs.declared.records.Slot.{Slot}
use Rattle.server.specs.declared.records.Entry.{Entry}
use Rattle.server.specs.declared.answers.Answer.{Answer}
use Rattle.server.specs.declared.answers.Verdict.{Verdict as CodeVerdict}
use Rattle.server.specs.declared.answers.Verdict.TheVariants.{Refuse, Repeat, New}
use Rattle.server.specs.declared.records.Session.{Session}
use Rattle.server.specs.declared.state.Server.{Server}
use Rattle.server.specs.Trays.{no_tray, tray_at}
use Rattle.server.specs.Server.{Last, never, in_progress, kept, not_kept, SlotM, SessionM, ServerM, Verdict, refuse, repeat, new}

-- what is kept of a call, with the reply body that was kept
abbrev pub last_model : CodeLast → Bytes → Last
last_model Never b = never
last_model InProgress b = in_progress
last_model (Kept highest target) b = kept highest target b
last_model NotKept b = not_kept

-- a slot and its tray
abbrev pub slot_model : Tray → Slot → SlotM
slot_model t x = record {
  is_open = is_some x.tray;
  number = x.number;
  highest = x.highest;
  keep = x.keep;
  body = t.request;
  last = last_model x.last t.reply;
}

-- a tray that is lent, or an empty one
abbrev pub tray_lent : Option (Bor Tray) → Tray
tray_lent None = no_tray
tray_lent (Some t) = t.now

-- both, as the code reads them together
abbrev pub entry_model : Entry → SlotM
entry_model e = slot_model (tray_lent e.tray) e.slot.now

-- a slot among the trays: one that is shut has no bytes
abbrev pub slot_in : List Tray → Slot → SlotM
slot_in ts x = slot_model (tray_at ts x.tray) x

-- a session that stands
abbrev pub standing_model : List Tray → Session → SessionM
standing_model ts s = record { id = id_model s.id; target = s.target; slots = map (slot_in ts) s.slots }

-- a place
abbrev pub session_model : List Tray → Option Session → Option SessionM
session_model ts = option_map (standing_model ts)

-- the session of an id stands at the place
abbrev pub bears : CodeId → Option Session → Bool
bears id None = false
bears id (Some s) = same_id (id_model s.id) (id_model id)

-- the server
abbrev pub model : Server → ServerM
model v = record { boot = v.boot; count = v.count; sessions = map (session_model v.trays) v.sessions }

-- what a slot says of a request
abbrev pub verdict_model : CodeVerdict → Verdict
verdict_model (Refuse s) = refuse (status_number s)
verdict_model (Repeat o) = repeat o.highest o.target o.body
verdict_model New = new

-- a reply with bytes of its own
abbrev pub answer_model : Answer → Reply
answer_model a = record { status = status_number a.status; id = id_model a.id; number = a.number; slot = a.slot; highest = a.highest; target = a.target; body = a.body }
