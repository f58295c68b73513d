-- Numbers and their big-endian bytes.
use Rattle.std.proofs.Common.{◌≡◌, ℕ, ◌+◌, ◌*◌, ◌/◌, ◌%◌, ◌^◌, ◌<◌, [], ◌∷◌, ◌∙◌, arith}
use Rattle.std.proofs.lemmas.Nat.{div-add-mod', from_be_bytes-to_be_bytes_4, div_below, mod_below}
use Rattle.common.specs.Bytes.{bytes4}

-- a number of 32 bits is that of its four bytes
pub word_back : (n : ℕ) → n < 2 ^ 32 → n / 16777216 % 256 * 16777216 + n / 65536 % 256 * 65536 + n / 256 % 256 * 256 + n % 256 ≡ n
word_back n h = omega (arith, from_be_bytes-to_be_bytes_4 n h)

-- four bytes are those of their number
pub digits : (a b c d : ℕ) → a < 256 → b < 256 → c < 256 → d < 256 → bytes4 (a * 16777216 + b * 65536 + c * 256 + d) ≡ a ∷ b ∷ c ∷ d ∷ []
digits a b c d ha hb hc hd =
    let n = a * 16777216 + b * 65536 + c * 256 + d in
    let ea : n / 16777216 % 256 ≡ a = omega arith in
    let eb : n / 65536 % 256 ≡ b = omega arith in
    let ec : n / 256 % 256 ≡ c = omega arith in
    let ed : n % 256 ≡ d = omega arith in
    λ i. ea i ∷ eb i ∷ ec i ∷ ed i ∷ []

-- the halves of a number of 64 bits
pub high : (n : ℕ) → n < 2 ^ 64 → n / 4294967296 < 2 ^ 32
high n h = div_below n 4294967296 4294967296 (omega arith) h

pub low : (n : ℕ) → n % 4294967296 < 2 ^ 32
low n = mod_below n 4294967296 (omega arith)

pub halves : (n x y : ℕ) → x ≡ n / 4294967296 → y ≡ n % 4294967296 → x * 4294967296 + y ≡ n
halves n x y e f = (λ i. e i * 4294967296 + f i) ∙ div-add-mod' n 4294967296

pub wide : (x y : ℕ) → x < 2 ^ 32 → y < 2 ^ 32 → x * 4294967296 + y < 2 ^ 64
wide x y p q = omega arith
