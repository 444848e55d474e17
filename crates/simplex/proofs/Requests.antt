-- The reads of a request vector are as many as its counts total.
use mathlib.Core.Path.{◌≡◌, refl, sym, ap₂, ◌∙◌}
use mathlib.Core.List.{List, [], ◌∷◌}
use Prim.Native.Nat.{ℕ, suc, ◌+◌}
use lib.ListN.{length, replicate, length-append, length-replicate}
use Rattle.std.specs.List.{sum}
use Rattle.simplex.specs.Limit.{reads_from, reads_of}
use Rattle.simplex.proofs.Contained.{sum_cons}

length_from : (i : ℕ) (counts : List ℕ) → length (reads_from i counts) ≡ sum counts
length_from i [] = refl
length_from i (c ∷ counts) =
    length-append (replicate c i) (reads_from (suc i) counts) ∙ ap₂ ◌+◌ (length-replicate c i) (length_from (suc i) counts)
    ∙ sym (sum_cons c counts)

pub length_reads : (counts : List ℕ) → length (reads_of counts) ≡ sum counts
length_reads counts = length_from 0 counts
