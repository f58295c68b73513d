-- Bytes that are followed by zeros to a fixed length are known from the bytes alone.
use Rattle.std.proofs.Common.{◌≡◌, ℕ, ◌-◌, ◌≤◌, List, ◌++◌, length, take, drop, replicate, refl, length-take-le}
use Rattle.std.proofs.lemmas.List.{take-append-drop, drop-replicate}
use Rattle.std.proofs.Math.Seq.{drop-append_seam}

pub length_taken : (len : ℕ) (bytes : List ℕ) → len ≤ length bytes → length (take len bytes) ≡ len
length_taken len bytes h = length-take-le len bytes h

pub refilled : (n len : ℕ) (bytes : List ℕ) → len ≤ length bytes → drop len bytes ≡ replicate (n - len) 0 → take len bytes ++ replicate (n - length (take len bytes)) 0 ≡ bytes
refilled n len bytes h e = rw (length_taken len bytes h, ← e, take-append-drop len bytes) refl

-- zeros that are overwritten at the front are zeros behind
pub zeros_behind : (n : ℕ) (xs : List ℕ) → drop (length xs) (xs ++ drop (length xs) (replicate n 0)) ≡ replicate (n - length xs) 0
zeros_behind n xs = rw (drop-append_seam xs (drop (length xs) (replicate n 0)), drop-replicate {X = ℕ} (length xs) n 0) refl
