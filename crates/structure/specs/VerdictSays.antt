-- What the contracts of the checks say. Assumes nothing.
use Rattle.std.specs.Prelude.{ℕ, ◌≡◌, List}
use Rattle.reader.specs.Nodes.{Nodes}
use Rattle.type_nodes.specs.Moves.{Test}
use Rattle.type_nodes.specs.Stands.{Stands}
use Rattle.structure.specs.Said.{Said, Job}
use Rattle.structure.specs.Checks.{checked, test}
use Rattle.structure.specs.Allowance.{Verdict, verdict_within}

-- r is what comes of the check `what` of the nodes that stand there, when so many steps are left.
pub record VerdictSays (tree kinds : List ℕ) (from to left : ℕ) (what : Nodes → Said) (r : Verdict) : Type 0 where
  pub says : (x : Nodes) → Stands tree kinds from to x → r ≡ verdict_within left (what x)

-- The same of a check that is given those of the nodes below.
abbrev pub Answers : (what : (lang : ℕ) (kinds words : List ℕ) (check : Job → Nodes → Said) → Nodes → Said) (lang : ℕ) (tree kinds words : List ℕ)
    (from to left : ℕ) → Verdict → Type 0
Answers what lang tree kinds words from to left r = VerdictSays tree kinds from to left (what lang kinds words (checked lang kinds words)) r

-- And of the test t.
abbrev pub Passes : (lang : ℕ) (tree kinds words : List ℕ) (from to left : ℕ) → Test → Verdict → Type 0
Passes lang tree kinds words from to left t r = VerdictSays tree kinds from to left (test lang kinds words (checked lang kinds words) t) r
