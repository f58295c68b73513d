-- The house as a whole, and the nine calls: what each leaves, answers, puts and takes.
use Rattle.std.specs.Prelude.{ℕ, Bool, false, cond, not, List, is_some, Some, None, Ok, Err, Option, Result, nat_lt, slice_index_or, slice_set}
use Rattle.std.specs.Option.{unwrap_or}
use Rattle.common.specs.Bytes.{Bytes}
use Rattle.wire.specs.Wire.{same_id, Reply, reply_message, read_reply, Refusal, row_of, short_scratch, no_terminal, nothing_waits, no_call}
use Rattle.common.specs.Search.{when_found, lowest_at}
use Rattle.service.specs.Service.{ServiceModel}
use Rattle.channel.specs.Channel.{ChannelModel}
use Rattle.server.specs.Server as server
use Rattle.server.specs.Server.{ServerM, session_of, Work, Served, fault, says, old, work, Opening, Run}
use Rattle.terminal.specs.Terminal as terminal
use Rattle.terminal.specs.Terminal.{TerminalM, Sending, Effect}
use Rattle.exactly_once.specs.History.{Told, run, aside, Asked, asked_open, asked_order, asked_part, asked_resend, asked_hear, asked_resume, asked_take, asked_retarget, asked_close, Answer, refused, opened, ordered, ran, set_aside, again, status, taken, ok, Event}

-- the three parts that a house is made over
pub record Parts : Type 1 where
  pub service : ServiceModel
  pub requests : ChannelModel
  pub replies : ChannelModel

-- the house
pub record Model (P : Parts) : Type 0 where
  pub server : ServerM
  -- eight places, each with the record of the terminal opened there last
  pub terminals : List (Option TerminalM)
  pub content : P.service.Content
  pub requests : P.requests.State
  pub replies : P.replies.State

-- a call met: the house after it, its answer, and the messages that it put and took
pub record Step (P : Parts) : Type 0 where
  pub after : Model P
  pub answer : Answer
  pub put : Option Bytes
  pub took : Option Bytes

-- a refusal as an answer
abbrev pub refusal : Refusal → Answer
refusal r = refused (row_of r).number (row_of r).offset

-- the scratch is too short
abbrev pub is_short : ℕ → Bool
is_short room = nat_lt room 304

-- the session of a record stands
abbrev pub stands : ServerM → Option TerminalM → Bool
stands s t = when_found false (λ (u : TerminalM). is_some (session_of s u.id)) t

-- a reply bears the session id of a record
abbrev pub bears : Reply → Option TerminalM → Bool
bears r t = when_found false (λ (u : TerminalM). same_id u.id r.id) t

module _ (P : Parts) where
  -- a call that puts and takes nothing
  abbrev pub plainly : Model P → Answer → Step P
  plainly m a = record { after = m; answer = a; put = None; took = None }

  -- a call refused that alters nothing
  abbrev pub refuse : Model P → Refusal → Step P
  refuse m r = plainly m (refusal r)

  -- the record at a place, if one was ever opened there
  abbrev pub terminal_at : Model P → ℕ → Option TerminalM
  terminal_at m p = slice_index_or m.terminals p None

  -- the house with another record there
  abbrev pub with_terminal : Model P → ℕ → TerminalM → Model P
  with_terminal m p t = record { server = m.server; terminals = slice_set m.terminals p (Some t); content = m.content; requests = m.requests; replies = m.replies }

  -- the house with another server
  abbrev pub with_server : Model P → ServerM → Model P
  with_server m s = record { server = s; terminals = m.terminals; content = m.content; requests = m.requests; replies = m.replies }

  -- a request is put
  abbrev pub put_request : Model P → Bytes → Model P
  put_request m b = record { server = m.server; terminals = m.terminals; content = m.content; requests = P.requests.puts m.requests b; replies = m.replies }

  -- a reply is put
  abbrev pub put_reply : Model P → Bytes → Model P
  put_reply m b = record { server = m.server; terminals = m.terminals; content = m.content; requests = m.requests; replies = P.replies.puts m.replies b }

  -- a request is taken
  abbrev pub rest_requests : Model P → Model P
  rest_requests m = record { server = m.server; terminals = m.terminals; content = m.content; requests = P.requests.rests m.requests; replies = m.replies }

  -- a reply is taken
  abbrev pub rest_replies : Model P → Model P
  rest_replies m = record { server = m.server; terminals = m.terminals; content = m.content; requests = m.requests; replies = P.replies.rests m.replies }

  -- Open. The lowest place without a standing session; there is one where the server has room for a session
  abbrev pub free_place : Model P → ℕ
  free_place m = unwrap_or (lowest_at (λ t. not (stands m.server t)) m.terminals 0) 7

  -- by what the server answered
  abbrev pub open_by : Model P → ℕ → Result Opening Refusal → Step P
  open_by m target (Err r) = refuse m r
  open_by m target (Ok o) = plainly (with_terminal (with_server m o.after) (free_place m) (terminal.new_terminal o.id target)) (opened (free_place m))

  -- a session is opened, and its terminal's record replaces what was at the place
  unfoldable pub open_step : Model P → ℕ → Step P
  open_step m target = open_by m target (server.open_session m.server target)

  -- Order, part, resend at place p. By what the terminal answered; its message goes to the request channel.
  abbrev pub send_by : Model P → ℕ → (ℕ → Answer) → Result Sending Refusal → Step P
  send_by m p answer (Err r) = refuse m r
  send_by m p answer (Ok s) = record { after = put_request (with_terminal m p s.after) s.message; answer = answer s.slot; put = Some s.message; took = None }

  -- the terminal at p sends
  unfoldable pub send_step : Model P → ℕ → ℕ → (ℕ → Answer) → (TerminalM → Result Sending Refusal) → Step P
  send_step m p room answer send =
      cond (is_short room) (refuse m short_scratch)
      (when_found (refuse m no_terminal) (λ (t : TerminalM). send_by m p answer (send t)) (terminal_at m p))

  -- Hear. With m the house after the take and b the request taken: a reply is put.
  abbrev pub hear_says : Model P → Bytes → Answer → Reply → Step P
  hear_says m b a r = record { after = put_reply m (reply_message r); answer = a; put = Some (reply_message r); took = Some b }

  -- none is put
  abbrev pub hear_stops : Model P → Bytes → Answer → Step P
  hear_stops m b a = record { after = m; answer = a; put = None; took = Some b }

  -- the house after a run, before its reply is put
  abbrev pub ran_model : Model P → Run P.service → Model P
  ran_model m r = record { server = r.server; terminals = m.terminals; content = r.content; requests = m.requests; replies = m.replies }

  -- the work order was run
  abbrev pub hear_run : Model P → Bytes → Result (Run P.service) Refusal → Step P
  hear_run m b (Err r) = hear_stops m b (refusal r)
  hear_run m b (Ok r) = hear_says (ran_model m r) b ran r.reply

  -- the work order was set aside
  abbrev pub hear_aside : Model P → Bytes → Result (Unit {0}) Refusal → Step P
  hear_aside m b (Err r) = hear_stops m b (refusal r)
  hear_aside m b (Ok x) = hear_stops m b set_aside

  -- a work order, as told
  abbrev pub hear_work : Model P → Bytes → Told → Work → Step P
  hear_work m b run w = hear_run m b (server.run_work P.service m.content m.server w)
  hear_work m b aside w = hear_aside m b (server.set_work_aside m.server w)

  -- by what serve gave
  abbrev pub hear_served : Model P → Bytes → Told → Served → Step P
  hear_served m b told (fault r) = hear_stops m b (refusal r)
  hear_served m b told (says r) = hear_says m b (status r.status) r
  hear_served m b told (old r) = hear_says m b again r
  hear_served m b told (work w) = hear_work m b told w

  -- the request is served
  abbrev pub hear_request : Model P → Told → Bytes → Step P
  hear_request m told b = hear_served (with_server m (server.serve m.server b).after) b told (server.serve m.server b).answer

  -- a request is taken and served
  unfoldable pub hear_step : Model P → Told → ℕ → Step P
  hear_step m told room =
      cond (is_short room) (refuse m short_scratch)
      (when_found (refuse (rest_requests m) nothing_waits) (hear_request (rest_requests m) told) (P.requests.gives m.requests))

  -- Resume at place p. By what the server answered.
  abbrev pub resume_by : Model P → Result (Run P.service) Refusal → Step P
  resume_by m (Err r) = refuse m r
  resume_by m (Ok r) = record { after = put_reply (ran_model m r) (reply_message r.reply); answer = ok; put = Some (reply_message r.reply); took = None }

  -- work set aside at a slot of that terminal's session is run, and the reply put
  unfoldable pub resume_step : Model P → ℕ → ℕ → ℕ → Step P
  resume_step m p slot room =
      cond (is_short room) (refuse m short_scratch)
      (when_found (refuse m no_terminal) (λ (t : TerminalM). resume_by m (server.resume_work P.service m.content m.server t.id slot)) (terminal_at m p))

  -- Take. With m the house after the take and b the reply taken: it is refused
  abbrev pub take_stops : Model P → Bytes → Refusal → Step P
  take_stops m b r = record { after = m; answer = refusal r; put = None; took = Some b }

  -- it belongs to an open call of the terminal at p
  abbrev pub take_effect : Model P → Bytes → ℕ → Reply → TerminalM → Effect → Step P
  take_effect m b p r t e = record { after = with_terminal m p (terminal.after_accept t r); answer = taken p r.slot e; put = None; took = Some b }

  -- it is handed to the terminal at p
  abbrev pub take_at : Model P → Bytes → Reply → ℕ → Step P
  take_at m b r p =
      when_found (take_stops m b no_call) (λ (t : TerminalM). when_found (take_stops m b no_call) (take_effect m b p r t) (terminal.accept_effect t r)) (terminal_at m p)

  -- it is handed to the terminal whose session id it bears
  abbrev pub take_read : Model P → Bytes → Result Reply Refusal → Step P
  take_read m b (Err r) = take_stops m b r
  take_read m b (Ok r) = when_found (take_stops m b no_call) (take_at m b r) (lowest_at (bears r) m.terminals 0)

  -- a reply is taken and handed over
  unfoldable pub take_step : Model P → ℕ → Step P
  take_step m room =
      cond (is_short room) (refuse m short_scratch)
      (when_found (refuse (rest_replies m) nothing_waits) (λ b. take_read (rest_replies m) b (read_reply b)) (P.replies.gives m.replies))

  -- Retarget and close at place p. By what the server answered.
  abbrev pub server_by : Model P → Result ServerM Refusal → Step P
  server_by m (Err r) = refuse m r
  server_by m (Ok s) = plainly (with_server m s) ok

  -- the session of the terminal at p is retargeted
  unfoldable pub retarget_step : Model P → ℕ → ℕ → Step P
  retarget_step m p target =
      when_found (refuse m no_terminal) (λ (t : TerminalM). server_by m (server.retarget_session m.server t.id target)) (terminal_at m p)

  -- the session of the terminal at p is closed
  unfoldable pub close_step : Model P → ℕ → Step P
  close_step m p = when_found (refuse m no_terminal) (λ (t : TerminalM). server_by m (server.close_session m.server t.id)) (terminal_at m p)

  -- a call met
  abbrev pub act : Model P → Asked → Step P
  act m (asked_open target) = open_step m target
  act m (asked_order p keep body room) = send_step m p room ordered (λ t. terminal.order_sends t keep body)
  act m (asked_part p slot room) = send_step m p room ordered (λ t. terminal.part_sends t slot)
  act m (asked_resend p slot room) = send_step m p room (λ i. ok) (λ t. terminal.resend_sends t slot)
  act m (asked_hear told room) = hear_step m told room
  act m (asked_resume p slot room) = resume_step m p slot room
  act m (asked_take room) = take_step m room
  act m (asked_retarget p target) = retarget_step m p target
  act m (asked_close p) = close_step m p

  -- and what a history says of it
  abbrev pub event_of : Model P → Asked → Event
  event_of m a = record { asked = a; answer = (act m a).answer; put = (act m a).put; took = (act m a).took }
