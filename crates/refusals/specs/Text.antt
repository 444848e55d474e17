-- How a refusal and an answer are printed.
use Rattle.std.specs.Prelude.{List, ◌++◌, ℕ, codes}
use Rattle.std.specs.Fmt.{decimal}
use Rattle.refusals.specs.declared.Refusal.{Refusal}
use Rattle.refusals.specs.declared.Answer.{Answer}
use Rattle.refusals.specs.declared.Answer.TheVariants.{Ready, FullRows, Served}
use Rattle.refusals.specs.Verdict.{number_of}

abbrev pub refusal_text : Refusal → List ℕ
refusal_text refusal = codes "refused " ++ decimal (number_of refusal.reason) ++ codes ", place " ++ decimal refusal.place

abbrev pub answer_text : Answer → List ℕ
answer_text (Ready banks most_reads) = codes "banks " ++ (decimal banks ++ (codes ", most reads of a group " ++ decimal most_reads))
answer_text (FullRows rows) = codes "full rows " ++ decimal rows
answer_text Served = codes "served"
