-- What is done to the code's slots, seen on those of the model.
use Rattle.std.proofs.Common.{◌≡◌, ℕ, ◌≤◌, Bool, true, List, map, length, set, Some, None, Option, refl, ap, ◌∙◌, arith}
use Rattle.std.proofs.lemmas.List.{map-set, length-map}
use Rattle.std.specs.Option.{option_map}
use Rattle.slots.specs.Slots.{front_changed}
use Rattle.slots.proofs.Slots.{front_shown, front_map}
use Rattle.terminal.specs.declared.state.OpenCall.{OpenCall as CodeCall}
use Rattle.terminal.specs.declared.state.End.{End}
use Rattle.wire.specs.Wire.{SessionId}
use Rattle.terminal.specs.Terminal.{TerminalM, OpenCall, EndM, with_usable, stale, stale_call}
use Rattle.terminal.specs.Models.{end_model, call_model, opened, staled, staled_call}

-- a terminal by its three fields
abbrev pub terminal_of : SessionId → ℕ → List EndM → TerminalM
terminal_of id heard xs = record { id = id; heard = heard; slots = xs }

call_staled : (o : Option CodeCall) → option_map call_model (option_map staled_call o) ≡ option_map stale_call (option_map call_model o)
call_staled None = refl
call_staled (Some c) = refl

end_of : ℕ → Bool → Option OpenCall → EndM
end_of number usable call = record { number = number; usable = usable; call = call }

end_staled : (e : End) → end_model (staled e) ≡ stale (end_model e)
unfolding end_of
end_staled e = ap (end_of e.number e.usable) (call_staled e.call)

module _ (es : List End) where
  pub put_shown : (i : ℕ) (e : End) → map end_model (set es i e) ≡ set (map end_model es) i (end_model e)
  put_shown i e = map-set end_model es i e

  pub opened_shown : (n : ℕ) → map end_model (front_changed opened n es) ≡ front_changed (with_usable true) n (map end_model es)
  opened_shown n = front_shown end_model opened (with_usable true) (λ e. refl) n es

  pub staled_shown : length es ≡ 16 → map end_model (front_changed staled 16 es) ≡ map stale (map end_model es)
  staled_shown h =
      let within : length (map end_model es) ≤ 16 = omega (arith, length-map es end_model) in
      front_shown end_model staled stale end_staled 16 es ∙ front_map stale 16 (map end_model es) within
