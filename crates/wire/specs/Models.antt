-- What the values of the code stand for in the written rules.
use Rattle.std.specs.Prelude.{ℕ, List, Ok, Err, Result}
use Rattle.std.specs.Borrow.{Bor}
use Rattle.wire.specs.declared.messages.SessionId.{SessionId as CodeId}
use Rattle.wire.specs.declared.messages.Request.{Request as CodeRequest}
use Rattle.wire.specs.declared.messages.Reply.{Reply as CodeReply}
use Rattle.wire.specs.declared.statuses.Status.{Status}
use Rattle.wire.specs.declared.statuses.UnknownStatus.{UnknownStatus}
use Rattle.wire.specs.declared.statuses.Status.TheVariants.{Ok as Done, Delay, BadSession, BadSlot, SeqMisordered, RetryUncachedRep, SeqFalseRetry, BadHighSlot}
use Rattle.wire.specs.declared.refusals.Place.{Place as CodePlace}
use Rattle.wire.specs.declared.refusals.Place.TheVariants.{Buffer, Terminal, SessionMap, Channel, Codec}
use Rattle.wire.specs.declared.refusals.Refusal.{Refusal as CodeRefusal}
use Rattle.wire.specs.declared.refusals.Refusal.TheVariants.{ShortScratch, NoTerminal, NotStanding, LongBody, NoSlot, NoOpenCall, NoPart, NoWork, HighTarget, NoPlace, NoCount, FewTrays, NothingWaits, Unreadable, NoCall}
use Rattle.common.specs.Bytes.{Bytes}
use Rattle.wire.specs.Wire.{SessionId, Request, Reply, Refusal, short_scratch, no_terminal, not_standing, long_body, no_slot, no_open_call, no_part, no_work, high_target, no_place, no_count, few_trays, nothing_waits, unreadable, no_call, Place, buffer, terminal, session_map, channel, codec}

-- the number of each status
abbrev pub status_number : Status → ℕ
status_number Done = 0
status_number Delay = 10008
status_number BadSession = 10052
status_number BadSlot = 10053
status_number SeqMisordered = 10063
status_number RetryUncachedRep = 10068
status_number SeqFalseRetry = 10076
status_number BadHighSlot = 10077

-- the number of a status, or the number that none has
abbrev pub number_in : Result Status UnknownStatus → Result ℕ ℕ
number_in (Ok s) = Ok (status_number s)
number_in (Err e) = Err e.0

-- a session's id
abbrev pub id_model : CodeId → SessionId
id_model i = record { boot = i.boot; count = i.count }

-- a request, its body as the bytes lent
abbrev pub request_model : CodeRequest → Request
request_model q =
    record { id = id_model q.id; number = q.number; slot = q.slot; highest = q.highest; keep = q.keep; body = q.body.now }

-- and a reply
abbrev pub reply_model : CodeReply → Reply
reply_model r =
    record { status = status_number r.status; id = id_model r.id; number = r.number; slot = r.slot; highest = r.highest; target = r.target; body = r.body.now }

-- the part of the house
abbrev pub place_model : CodePlace → Place
place_model Buffer = buffer
place_model Terminal = terminal
place_model SessionMap = session_map
place_model Channel = channel
place_model Codec = codec

-- a refusal; its place, number and offset are those of `row_of`
abbrev pub refusal_model : CodeRefusal → Refusal
refusal_model ShortScratch = short_scratch
refusal_model NoTerminal = no_terminal
refusal_model NotStanding = not_standing
refusal_model LongBody = long_body
refusal_model NoSlot = no_slot
refusal_model NoOpenCall = no_open_call
refusal_model NoPart = no_part
refusal_model NoWork = no_work
refusal_model HighTarget = high_target
refusal_model NoPlace = no_place
refusal_model NoCount = no_count
refusal_model FewTrays = few_trays
refusal_model NothingWaits = nothing_waits
refusal_model (Unreadable offset) = unreadable offset
refusal_model NoCall = no_call

-- a value that stands for itself
abbrev pub itself : {X : Type 0} → X → X
itself x = x

-- lent bytes
abbrev pub lent : Bor (List ℕ) → Bytes
lent b = b.now

-- what a call answers, by what its value stands for
abbrev pub answer_model : {X Y : Type 0} → (X → Y) → Result X CodeRefusal → Result Y Refusal
answer_model model (Ok x) = Ok (model x)
answer_model model (Err e) = Err (refusal_model e)
