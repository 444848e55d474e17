-- A judge's answer where it refuses by a verdict, and else gives the geometry of a shape.
use Rattle.std.specs.Prelude.{◌≡◌, Result, IfOk}
use Rattle.refusals.specs.declared.Refusal.{Refusal}
use Rattle.refusals.specs.Verdict.{Verdict, verdict_of}
use Rattle.layout.specs.declared.Shape.{Shape}
use Rattle.layout.specs.declared.Geometry.{Geometry}

pub record Judged (given : Shape) (by : Verdict) (answer : Result Geometry Refusal) : Type 0 where
  pub verdict : verdict_of answer ≡ by
  pub shape : IfOk answer (λ geometry. geometry.shape ≡ given)
