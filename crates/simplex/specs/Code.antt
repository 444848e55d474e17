-- The code of a group: what each bank holds, and what a set of banks yields.
use Rattle.std.specs.Prelude.{◌≡◌, List, [], ◌∷◌, map, ℕ, zero, suc, ◌<◌, length, slice_index, slice_index_or}
use Rattle.std.specs.Int.Bits.{bit_xor}
use Rattle.bits.specs.Bits.{bit}
use Rattle.cells.specs.Xor.{xor_all}

-- A packet: a list of bytes.
abbrev pub Packet : Type 0
Packet = List ℕ

-- The packets have P bytes each.
abbrev pub Sized : (P : ℕ) → List Packet → Type 0
Sized P [] = Unit {0}
Sized P (p ∷ packets) = (length p ≡ P) × Sized P packets

-- A content of a group: K packets, of P bytes each, whatever is in them. A byte is a number below 256 [promise.words].
pub record Content (K P : ℕ) (packets : List Packet) : Type 0 where
  pub count : length packets ≡ K
  pub sized : Sized P packets
  pub bytes : (symbol byte : ℕ) → slice_index (slice_index_or packets symbol []) byte < 256

-- The packet p before the others where the bit is 1.
abbrev pub keep_if : ℕ → Packet → List Packet → List Packet
keep_if zero p packets = packets
keep_if (suc d) p packets = p ∷ packets

-- Of packets that are numbered from i on, those whose bit of b is set.
abbrev pub chosen : (b i : ℕ) → List Packet → List Packet
chosen b i [] = []
chosen b i (p ∷ packets) = keep_if (bit b i) p (chosen b (suc i) packets)

-- What bank b holds: the packets that its bits choose, XORed byte by byte [bank.content].
abbrev pub bank_cell : (P : ℕ) → List Packet → (b : ℕ) → Packet
bank_cell P packets b = xor_all P (chosen b 0 packets)

-- A set of banks: a list of their numbers. Every set is such a list, so what holds of all lists holds of all sets.
abbrev pub Banks : Type 0
Banks = List ℕ

-- What the banks of a set hold, XORed.
abbrev pub xor_of_banks : (P : ℕ) → List Packet → Banks → Packet
xor_of_banks P packets banks = xor_all P (map (bank_cell P packets) banks)

-- The XOR of the numbers of its banks.
abbrev pub xor_of_numbers : Banks → ℕ
xor_of_numbers [] = 0
xor_of_numbers (b ∷ banks) = bit_xor b (xor_of_numbers banks)

-- A set of banks yields a symbol: whatever the content, what they hold XORs to the symbol's packet [promise.words].
abbrev pub Yields : (K P : ℕ) → Banks → (symbol : ℕ) → Type 0
Yields K P banks symbol =
    (packets : List Packet) → Content K P packets → xor_of_banks P packets banks ≡ slice_index_or packets symbol []
