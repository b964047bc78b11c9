-- Lemmas on bits and fields.
use Rattle.std.proofs.Common.{◌≡◌, ℕ, zero, suc, ◌+◌, ◌-◌, ◌*◌, ◌/◌, ◌%◌, ◌^◌, ◌<◌, ◌≤◌, List, length, get_or, Ok, Err, sym, refl, ⊎_elim, add-zero, add_assoc, add-suc, mul_assoc, pow-suc, add-one, arith, pow_mono}
use Rattle.std.proofs.lemmas.Nat.{pow-add, mod_below, mod-pow-add, shr-shr}
use Rattle.std.proofs.lemmas.Bool.{le-leb, lt-leb, cases_lt}
use Rattle.fault.specs.declared.Spot.{Spot}
use Rattle.plan.specs.Bits.{bit, bits, field_of, spot_of}
use Rattle.fault.specs.Faults.{short}

pub bit_below : (bs : List ℕ) (i : ℕ) → bit bs i < 2
unfolding bit
bit_below bs i = mod_below _ 2 (omega arith)

pub bits_none : (bs : List ℕ) (i : ℕ) → bits bs i 0 ≡ 0
unfolding bits
bits_none bs i = refl

pub bits_more : (bs : List ℕ) (i w : ℕ) → bits bs i (w + 1) ≡ bits bs i w * 2 + bit bs (i + w)
unfolding bits
bits_more bs i w = rw (add-one)

pub bits_below : (bs : List ℕ) (i w : ℕ) → bits bs i w < 2 ^ w
unfolding bits
bits_below bs i zero = omega arith
bits_below bs i (suc w) = omega (arith, bits_below bs i w, bit_below bs (i + w), pow-add 2 w 1)

-- One bit more of up to 32.
pub bits_fit : (bs : List ℕ) (i w : ℕ) → w < 32 → bits bs i w * 2 + bit bs (i + w) < 2 ^ 32
bits_fit bs i w h =
    let l : w + 1 ≤ 32 = omega arith in
    let more : 2 ^ (w + 1) ≤ 2 ^ 32 = pow_mono l in
    omega (arith, bits_below bs i w, bit_below bs (i + w), pow-add 2 w 1)

-- A field cut in two.
pub bits_split : (bs : List ℕ) (i m n : ℕ) → bits bs i (m + n) ≡ bits bs i m * 2 ^ n + bits bs (i + m) n
unfolding bits
bits_split bs i m zero = rw (add-zero m) (omega arith)
bits_split bs i m (suc n) =
    let h = bits_split bs i m n in
    let e = mul_assoc (bits bs i m) (2 ^ n) 2 in
    rw (add-suc m n, pow-suc 2 n, ← add_assoc i m n) (omega arith)

-- A complete field.
pub field_whole : (bs : List ℕ) (o : Spot) (i w : ℕ) → i + w ≤ 8 * length bs → field_of bs o i w ≡ Ok (bits bs i w)
unfolding field_of
field_whole bs o i w h = rw (le-leb (i + w) (8 * length bs) h)

-- A field that is cut.
pub field_cut : (bs : List ℕ) (o : Spot) (i w : ℕ) → 8 * length bs < i + w → field_of bs o i w ≡ Err (short (spot_of o i))
unfolding field_of
field_cut bs o i w h = rw (lt-leb (i + w) (8 * length bs) h)

-- A field that is complete lies within the bytes.
pub field_fits : (bs : List ℕ) (o : Spot) (i w v : ℕ) → field_of bs o i w ≡ Ok v → i + w ≤ 8 * length bs
field_fits bs o i w v h =
    ⊎_elim
    (λ short. cc (field_cut bs o i w short))
    (λ long. long)
    (cases_lt (8 * length bs) (i + w))

-- Bit j of byte k.
pub bit_at : (bs : List ℕ) (k j i : ℕ) → i ≡ 8 * k + j → j < 8 → bit bs i ≡ get_or bs k 0 / 2 ^ (7 - j) % 2
unfolding bit
bit_at bs k j i e h =
    let q : i / 8 ≡ k = omega arith in
    let r : i % 8 ≡ j = omega arith in
    rw (q, r)

-- Bits that lie within byte k, from its bit j on.
pub within_byte : (bs : List ℕ) (k j i w : ℕ) → i ≡ 8 * k + j → j + w ≤ 8 → bits bs i w ≡ get_or bs k 0 / 2 ^ (8 - (j + w)) % 2 ^ w
unfolding bits
within_byte bs k j i zero e h = omega arith
within_byte bs k j i (suc w) e h =
    let s : ℕ = 7 - (j + w) in
    let more : 8 - (j + w) ≡ s + 1 = omega arith in
    let here : 8 - (j + suc w) ≡ s = omega arith in
    let front = within_byte bs k j i w e (omega arith) in
    let last = bit_at bs k (j + w) (i + w) (omega arith) (omega arith) in
    rw (front, last, more, here, ← shr-shr (get_or bs k 0) s 1, ← add-one w) (sym (mod-pow-add (get_or bs k 0 / 2 ^ s) w 1))

-- The upper half, the lower half and the whole of byte k, which starts at bit i.
module _ (bs : List ℕ) (k i : ℕ) (byte : get_or bs k 0 < 256) where
  pub upper_half : i ≡ 8 * k → bits bs i 4 ≡ get_or bs k 0 / 16
  upper_half e = omega (arith, within_byte bs k 0 i 4 (omega arith) (omega arith))

  pub lower_half : i ≡ 8 * k + 4 → bits bs i 4 ≡ get_or bs k 0 % 16
  lower_half e = omega (arith, within_byte bs k 4 i 4 (omega arith) (omega arith))

  pub whole_byte : i ≡ 8 * k → bits bs i 8 ≡ get_or bs k 0
  whole_byte e = omega (arith, within_byte bs k 0 i 8 (omega arith) (omega arith))

-- The 20 bits from the lower half of byte k on, and from byte k on.
module _ (bs : List ℕ) (k i : ℕ) (b0 : get_or bs k 0 < 256) (b1 : get_or bs (k + 1) 0 < 256) (b2 : get_or bs (k + 2) 0 < 256) where
  pub twenty_from_half : i ≡ 8 * k + 4 → bits bs i 20 ≡ (get_or bs k 0 % 16) * 65536 + get_or bs (k + 1) 0 * 256 + get_or bs (k + 2) 0
  twenty_from_half e =
      omega (arith, bits_split bs i 4 16, bits_split bs (i + 4) 8 8, lower_half bs k i b0 e, whole_byte bs (k + 1) (i + 4) b1 (omega arith), whole_byte bs (k + 2) (i + 4 + 8) b2 (omega arith))

  pub twenty_from_byte : i ≡ 8 * k → bits bs i 20 ≡ get_or bs k 0 * 4096 + get_or bs (k + 1) 0 * 16 + get_or bs (k + 2) 0 / 16
  twenty_from_byte e =
      omega (arith, bits_split bs i 8 12, bits_split bs (i + 8) 8 4, whole_byte bs k i b0 e, whole_byte bs (k + 1) (i + 8) b1 (omega arith), upper_half bs (k + 2) (i + 8 + 8) b2 (omega arith))
