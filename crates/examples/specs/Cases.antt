-- Worked cases of the rules, and three slips that they exclude.
use Rattle.std.specs.Prelude.{◌≡◌, ℕ, Bool, true, false, List, [], ◌∷◌, ◌++◌, length, replicate, None, Ok, Err, Result, ◌≢◌}
use Rattle.common.specs.Bytes.{Bytes, bytes4}
use Rattle.wire.specs.Wire.{SessionId, Request, Reply, Refusal, unreadable, few_trays, request_message, reply_message, read_request}
use Rattle.channel.specs.Channels.{pipe_model}
use Rattle.ledger.specs.Ledger.{ledger_model, ledger_answer, move, move_status}
use Rattle.tree.specs.Tree as tree
use Rattle.tree.specs.Tree.{Nodes, is_there, is_folder, other_named, is_within, tree_status}
use Rattle.server.specs.Server.{SlotM, SessionM, ServerM, Opening, new_slot, with_open, new_session, slot_at, judge, verdict, refuse, new, is_new, open_session, free_trays, outcome_reply, retargeted, with_slot, finished}
use Rattle.terminal.specs.Terminal.{TerminalM, OpenCall, answered, learns}
use Rattle.exactly_once.specs.History.{run, Asked, asked_open, asked_order, asked_part, asked_hear, asked_take, asked_retarget, Answer, ordered, ran, taken}
use Rattle.exactly_once.specs.Steps.{Parts, Model, act}
use Rattle.exactly_once.specs.Lived.{slot_of}

-- a server as made
abbrev pub new_server : ServerM
new_server = record { boot = 1; count = 1; sessions = replicate 8 None }

-- the server after an open that is accepted
abbrev pub after_opening : Result Opening Refusal → ServerM
after_opening (Ok o) = o.after
after_opening (Err r) = new_server

-- and after opens at those targets
abbrev pub opens : ServerM → List ℕ → ServerM
opens m [] = m
opens m (target ∷ targets) = opens (after_opening (open_session m target)) targets

-- a request with a body, of a fresh session's first call
abbrev pub request_of : Bytes → Request
request_of body = record { id = record { boot = 1; count = 1 }; number = 1; slot = 0; highest = 0; keep = true; body = body }

-- a ledger and two pipes
abbrev pub shop : Parts
shop = record { service = ledger_model; requests = pipe_model; replies = pipe_model }

-- a house over them, as made
abbrev pub new_house : Model shop
new_house = record { server = new_server; terminals = replicate 8 None; content = replicate 32 0; requests = []; replies = [] }

-- the house after some calls
abbrev pub after : Model shop → List Asked → Model shop
after m [] = m
after m (a ∷ rest) = after (act shop m a).after rest

-- what they answered
abbrev pub answers : Model shop → List Asked → List Answer
answers m [] = []
answers m (a ∷ rest) = (act shop m a).answer ∷ answers (act shop m a).after rest

-- a bare call ordered, heard and taken
abbrev pub round : List Asked
round = asked_order 0 true [] 304 ∷ asked_hear run 304 ∷ asked_take 304 ∷ []

-- three calls ordered at once, then heard and taken
abbrev pub rounds : List Asked
rounds =
    asked_order 0 true [] 304 ∷ asked_order 0 true [] 304 ∷ asked_order 0 true [] 304
    ∷ asked_hear run 304 ∷ asked_hear run 304 ∷ asked_hear run 304 ∷ asked_take 304 ∷ asked_take 304 ∷ asked_take 304 ∷ []

-- target 2, each slot used once; lowered to 1, which a call hears; slot 2 is parted
abbrev pub parting : List Asked
parting = asked_open 2 ∷ (rounds ++ (asked_retarget 0 1 ∷ (round ++ (asked_part 0 2 304 ∷ asked_hear run 304 ∷ []))))

-- the parting taken, target 2 again, which a call hears
abbrev pub reopening : List Asked
reopening = parting ++ (asked_take 304 ∷ asked_retarget 0 2 ∷ round)

-- the cases, and behind them the slips
pub record Cases : Type 0 where
  -- at a fresh open slot number 1 is new, 0 and 2 get 10063
  pub one_is_new : (q : Request) → q.number ≡ 1 → is_new (with_open true new_slot) q ≡ true
  pub zero_misordered : (q : Request) → q.number ≡ 0 → judge (with_open true new_slot) q ≡ refuse 10063
  pub two_misordered : (q : Request) → q.number ≡ 2 → judge (with_open true new_slot) q ≡ refuse 10063
  -- slot 15 open is served, slot 16 gets 10053
  pub slot_15 : (id : SessionId) (q : Request) → q.slot ≡ 15 → q.number ≡ 1 → q.highest ≡ 15 → verdict (new_session id 15) q ≡ new
  pub slot_16 : (s : SessionM) (q : Request) → q.slot ≡ 16 → verdict s q ≡ refuse 10053
  -- a body of 256 bytes reads, one of 257 stops at offset 36
  pub body_256 : read_request (request_message (request_of (replicate 256 7))) ≡ Ok (request_of (replicate 256 7))
  pub body_257 : read_request (request_message (request_of (replicate 257 7))) ≡ Err (unreadable 36)
  -- a ledger move is a 48-byte request and, done, has a 60-byte reply
  pub move_48 : (id : SessionId) (number slot highest : ℕ) (keep : Bool) (from to amount : ℕ) → length (request_message (record { id = id; number = number; slot = slot; highest = highest; keep = keep; body = 1 ∷ from ∷ to ∷ bytes4 amount })) ≡ 48
  pub move_60 : (id : SessionId) (number slot high target : ℕ) (bins : List ℕ) (from to amount : ℕ) → move_status bins from to amount ≡ 0 → length (reply_message (outcome_reply id number slot high target (ledger_answer bins (move from to amount)))) ≡ 60
  -- at number 4,294,967,295 a request with number 0 gets 10063
  pub worn_out : (x : SlotM) (q : Request) → x.number ≡ 4294967295 → q.number ≡ 0 → judge x q ≡ refuse 10063
  -- four opens at target 15 use 64 trays, a fifth at target 0 gets 12
  pub no_tray : free_trays (opens new_server (15 ∷ 15 ∷ 15 ∷ 15 ∷ [])) ≡ 0
  pub fifth : open_session (opens new_server (15 ∷ 15 ∷ 15 ∷ 15 ∷ [])) 0 ≡ Err few_trays
  -- target 2 lowered to 1, and 1 heard: a part on slot 2 shuts it
  pub was_open : (slot_of shop (after new_house (asked_open 2 ∷ rounds)) 0 2).is_open ≡ true
  pub is_shut : (slot_of shop (after new_house parting) 0 2).is_open ≡ false
  pub part_number : (slot_of shop (after new_house parting) 0 2).number ≡ 2
  pub part_taken : (act shop (after new_house parting) (asked_take 304)).answer ≡ taken 0 2 (answered [])
  -- after retarget 2 its next number is one higher
  pub next_slots : answers (after new_house reopening) rounds ≡ ordered 0 ∷ ordered 1 ∷ ordered 2 ∷ ran ∷ ran ∷ ran ∷ taken 0 0 (answered []) ∷ taken 0 1 (answered []) ∷ taken 0 2 (answered []) ∷ []
  pub next_number : (slot_of shop (after new_house (reopening ++ rounds)) 0 2).number ≡ 3
  -- moving a folder, not the root, into a folder within it, by a name free there, gives 8
  pub into_itself : (ns : Nodes) (node parent : ℕ) (name : Bytes) → is_there ns node ≡ true → is_there ns parent ≡ true → is_folder ns parent ≡ true → other_named ns parent name node ≡ false → (node ≢ 0) → is_within 64 ns node parent ≡ true → tree_status ns (tree.move node parent name) ≡ 8
  -- slip: slot 5 is not shut because slot 0's request says highest 2
  pub other_slots : (s : SessionM) (i j : ℕ) (bytes : Bytes) → (j ≢ i) → slot_at (with_slot s i (finished s i bytes)) j ≡ slot_at s j
  -- slip: a slot that is opened again keeps its number
  pub reopened_number : (s : SessionM) (target i : ℕ) → (slot_at (retargeted s target) i).number ≡ (slot_at s i).number
  -- slip: a call that is not fresh teaches no target
  pub stale_target : (t : TerminalM) (c : OpenCall) (r : Reply) → c.fresh ≡ false → (learns t c r).heard ≡ t.heard
