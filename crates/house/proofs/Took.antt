-- A step that begins by taking a message from a channel.
use Rattle.std.proofs.Common.{◌≡◌, ℕ, ◌<◌, ◌≤◌, cond, ltb, leb, Some, None, Ok, Err, Option, Result, sym, refl, ap, ◌∙◌, ⊎_elim}
use Rattle.std.proofs.lemmas.Bool.{cond-true, cond-false, lt-ltb, le-ltb, lt-leb, le-leb, cases_lt}
use Rattle.common.specs.Bytes.{Bytes}
use Rattle.common.specs.Search.{when_found}
use Rattle.channel.specs.Channel.{ChannelModel, take_step}
use Rattle.wire.specs.Wire.{Refusal, short_scratch, nothing_waits}
use Rattle.house.specs.Took.{took}

module _ (C : ChannelModel) {X : Type 0} (refused : C.State → Refusal → X) (by : C.State → Bytes → X) where
  -- with the channel after it, by what was taken
  abbrev pub by_took : C.State → Result Bytes Refusal → X
  by_took q (Err e) = refused q e
  by_took q (Ok b) = by q b

  given : (q : C.State) (o : Option Bytes) → when_found (refused q nothing_waits) (by q) o ≡ by_took q (when_found (Err nothing_waits) Ok o)
  given q None = refl
  given q (Some b) = refl

  pub takes : (s : C.State) (room : ℕ) → cond (ltb room 304) (refused s short_scratch) (when_found (refused (C.rests s) nothing_waits) (by (C.rests s)) (C.gives s)) ≡ by_took (take_step C s room) (took C s room)
  takes s room = ⊎_elim short long (cases_lt room 304)
    where
      short : room < 304 → cond (ltb room 304) (refused s short_scratch) (when_found (refused (C.rests s) nothing_waits) (by (C.rests s)) (C.gives s)) ≡ by_took (take_step C s room) (took C s room)
      short h =
          cond-true (ltb room 304) _ _ (lt-ltb room 304 h)
          ∙ ap (λ q. refused q short_scratch) (sym (cond-false (leb 304 room) (C.rests s) s (lt-leb 304 room h)))
          ∙ ap (by_took (take_step C s room)) (sym (cond-true (ltb room 304) (Err short_scratch) (when_found (Err nothing_waits) Ok (C.gives s)) (lt-ltb room 304 h)))

      long : 304 ≤ room → cond (ltb room 304) (refused s short_scratch) (when_found (refused (C.rests s) nothing_waits) (by (C.rests s)) (C.gives s)) ≡ by_took (take_step C s room) (took C s room)
      long h =
          cond-false (ltb room 304) _ _ (le-ltb room 304 h)
          ∙ given (C.rests s) (C.gives s)
          ∙ ap (λ q. by_took q (when_found (Err nothing_waits) Ok (C.gives s))) (sym (cond-true (leb 304 room) (C.rests s) s (le-leb 304 room h)))
          ∙ ap (by_took (take_step C s room)) (sym (cond-false (ltb room 304) (Err short_scratch) (when_found (Err nothing_waits) Ok (C.gives s)) (le-ltb room 304 h)))
