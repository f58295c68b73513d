-- What each channel's record stands for.
use Rattle.std.specs.Prelude.{List}
use Rattle.common.specs.Bytes.{Bytes}
use Rattle.channel.specs.Channels.{ShelfState, LossState, pipe_model, loss_model, double_model}
use Rattle.channel.specs.Laws.{pipe_laws, loss_laws, double_laws}
use Rattle.channel.specs.declared.pipe.Pipe.{Pipe}
use Rattle.channel.specs.declared.shelf.Shelf.{Shelf}
use Rattle.channel.specs.declared.loss.Loss.{Loss}
use Rattle.channel.specs.declared.double.Double.{Double}
use Rattle.channel.specs.declared.Channel as channel

-- what waits in a pipe
abbrev pub pipe_state : Pipe → List Bytes
pipe_state p = p.rack.items

-- what waits on a shelf, and the choices that are not used up
abbrev pub shelf_state : Shelf → ShelfState
shelf_state s = record { messages = s.rack.items; choices = s.choices.now }

-- a loss by its counts and the state of the channel below
abbrev pub loss_state : {C : Type 0} (c : channel.Ghosts C) → Loss C c → LossState c.model.State
loss_state c l = record { every = l.every; since = l.since; inner = c.state l.inner }

-- a double by the state of the channel below
abbrev pub double_state : {C : Type 0} (c : channel.Ghosts C) → Double C → c.model.State
double_state c d = c.state d.inner

-- Each as a channel, for what is said of channels put together.
abbrev pub pipe_channel : channel.Ghosts Pipe
pipe_channel = record { model = pipe_model; state = pipe_state; lawful = pipe_laws }

abbrev pub loss_channel : {C : Type 0} → (c : channel.Ghosts C) → channel.Ghosts (Loss C c)
loss_channel c = record { model = loss_model c.model; state = loss_state c; lawful = loss_laws c.model c.lawful }

abbrev pub double_channel : {C : Type 0} → channel.Ghosts C → channel.Ghosts (Double C)
double_channel c = record { model = double_model c.model; state = double_state c; lawful = double_laws c.model c.lawful }

-- the shop pile
abbrev pub pile_channel : channel.Ghosts (Double (Loss Pipe pipe_channel))
pile_channel = double_channel (loss_channel pipe_channel)
