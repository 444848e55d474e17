-- What a turn reads stands behind what was read before it, and at the end all has been read that fits.
use Rattle.std.proofs.Common.{◌≡◌, ℕ, ◌+◌, ◌≤◌, List, ◌++◌, Option, None, Some, IfSome, length, take, drop, refl, sym, ap, ◌∙◌, arith, append_assoc, append-nil, length-append, length-take, take_all, take_at, drop_at, drop-drop}
use borrow.Rule.Slice.PartMut.{put_mid}
use Rattle.std.specs.Io.KnownBytes.{Consumes, IsAtEnd}
use Rattle.std.proofs.KnownBytes.{Consumes-trans}
use Rattle.lines.specs.Input.{Fills}
use Rattle.lines.proofs.Filled.{put_front}
use Rattle.lines.proofs.input.read_text.Goals as goal

-- what is read next goes behind what was read
read_next : (s read next t : List ℕ) (at n k : ℕ) → at ≡ length read → k ≡ n → t ≡ read ++ drop at s → put_mid at k t next ≡ (read ++ next) ++ drop (at + n) s
read_next s read next t at n k e f is = rw (is, f, take_at read (drop at s) at (sym e), drop_at read (drop at s) at (sym e), drop-drop, append_assoc)

module _ (s t read : List ℕ) (n : ℕ) (len : n ≡ length read) (is : t ≡ read ++ drop n s) where
  -- what was read is the front of the bytes that fits
  fits : (bytes : List ℕ) → take (length s) bytes ≡ read → Fills s n t bytes
  fits bytes e = (len ∙ ap length (sym e) ∙ length-take (length s) bytes, is ∙ rw (len, ← e) (put_front s bytes))

  -- there is no more room
  full : (old new : Option (List ℕ)) → Consumes old new read → n ≡ length s → IfSome old (Fills s n t)
  full None new used e = tt
  full (Some bytes) None used e = absurd used
  full (Some bytes) (Some left) used e = fits bytes (ap (take (length s)) used ∙ take_at read left (length s) (sym len ∙ e))

  -- there are no more bytes
  ended : (old new : Option (List ℕ)) → Consumes old new read → IsAtEnd new → n ≤ length s → IfSome old (Fills s n t)
  ended None new used end room = tt
  ended (Some bytes) None used end room = absurd used
  ended (Some bytes) (Some left) used end room =
      let all : bytes ≡ read = used ∙ ap (λ l. read ++ l) end ∙ append-nil read in
      fits bytes (ap (take (length s)) all ∙ take_all (length s) read (omega arith))

pub returns-then-most-eq0-clause-all : goal.returns-then-most-eq0-clause-all
returns-then-most-eq0-clause-all g c =
    let (read, len, room, used, is) = c.loop.invariant in
    full _ _ read _ len is _ _ used (omega (arith, c.min-most.ensures))

pub returns-in-Ok-eq0-clause-all : goal.returns-in-Ok-eq0-clause-all
returns-in-Ok-eq0-clause-all g c =
    let (read, len, room, used, is) = c.loop.invariant in
    let last = rw (c.in-Ok-eq0.is, c.in-Ok-eq0.field-0-test) at c.read.ensures.bytes in
    let same = rw append-nil at (Consumes-trans _ _ _ _ _ used last.0) in
    ended _ _ read _ len is _ _ same (last.1 refl (omega (arith, length-take c.min-most.result c.loop.room))) room

pub loop-preserved : goal.loop-preserved
loop-preserved g c =
    let (read, len, room, used, is) = c.loop.invariant in
    let n = c.in-Ok.n in
    let got = c.in-Ok.ensures in
    let next = take n c.read.new.buf in
    (read ++ next, omega (arith, length-append read next, got.bound), omega (arith, got.bound, length-take c.min-most.result c.loop.room), Consumes-trans _ _ _ _ _ used got.bytes.0, rw c.copy_from_slice.ensures.after (read_next _ read next _ _ n _ len (omega arith) is))
