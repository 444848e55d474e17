-- The laws of lines and frames.
use Rattle.std.specs.Prelude.{◌≡◌, ◌≢◌, ◌⊎◌, ◌↔◌, List, [], ◌∷◌, ℕ, ◌+◌, ◌*◌, ◌%◌, ◌≤◌, length, All}
use Rattle.refusals.specs.Verdict.{Accepted}
use Rattle.layout.specs.Laws.{Within}
use Rattle.frames.specs.Frame.{set_up, write, release, read, unknown, frame_of, line_refusal}

-- A digit: 0 to 9, or a to f.
abbrev pub Digit : (character : ℕ) → Type 0
Digit character = Within 48 57 character ⊎ Within 97 102 character

-- A line that stands for bytes: of 1 to 4,096 characters, an even count of them, each a digit [session.hex].
pub record BytesLine (line : List ℕ) : Type 0 where
  pub least : 1 ≤ length line
  pub most : length line ≤ 4096
  pub even : length line % 2 ≡ 0
  pub digits : All Digit line

-- line: a line is accepted exactly where it stands for bytes.
-- set_up: 01 and five bytes, K, m, P's high byte and its low one, and G, set up that shape [frame.set-up]. write: 02, a row and any bytes
-- write these to that row [frame.write]. release: 03 and a row release that row [frame.release]. read: 04 and any bytes read that list
-- [frame.read].
-- All other bytes are no frame [refusal.18]. empty: no bytes. other: a first byte that is not 1 to 4. set_up_length: 01 and other than five
-- bytes. write_length: 02 and none. release_length: 03 and other than one.
pub record TheFrames : Type 0 where
  pub line : (line : List ℕ) → (line_refusal line ≡ Accepted) ↔ BytesLine line
  pub set_up : (k m high low g : ℕ)
      → frame_of (1 ∷ k ∷ m ∷ high ∷ low ∷ g ∷ []) ≡ set_up (record { k = k; m = m; p = 256 * high + low; g = g })
  pub write : (row : ℕ) (packets : List ℕ) → frame_of (2 ∷ row ∷ packets) ≡ write row packets
  pub release : (row : ℕ) → frame_of (3 ∷ row ∷ []) ≡ release row
  pub read : (list : List ℕ) → frame_of (4 ∷ list) ≡ read list
  pub empty : frame_of [] ≡ unknown
  pub other : (first : ℕ) (behind : List ℕ) → (Within 1 4 first → ⊥) → frame_of (first ∷ behind) ≡ unknown
  pub set_up_length : (behind : List ℕ) → length behind ≢ 5 → frame_of (1 ∷ behind) ≡ unknown
  pub write_length : frame_of (2 ∷ []) ≡ unknown
  pub release_length : (behind : List ℕ) → length behind ≢ 1 → frame_of (3 ∷ behind) ≡ unknown
