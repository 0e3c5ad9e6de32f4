-- How the code keeps what items say.
use Rattle.std.specs.Prelude.{◌≡◌, ⊤, List, [], ◌∷◌}
use Rattle.sub_export.specs.declared.told_items.Said.{Said}
use Rattle.sub_export.specs.declared.told_items.Verdicts.{Verdicts}
use Rattle.sub_export.specs.declared.told_items.Verdicts.TheVariants as said
use Rattle.std.specs.Option.{option_map}
use Rattle.sub_export.specs.declared.job.Told as code
use Rattle.sub_export.specs.Output.{StatusOption, OptionsTold}

-- the verdict that the code's verdict stands for
abbrev pub verdict_meant : Said → StatusOption
verdict_meant v = record { status = v.status; id = v.id.now }

-- these are the verdicts, where there is at most one
abbrev pub AreVerdicts : Verdicts → List StatusOption → Type 0
AreVerdicts said.Nothing [] = ⊤
AreVerdicts said.Nothing (v ∷ vs) = ⊥
AreVerdicts (said.Once s) [] = ⊥
AreVerdicts (said.Once s) (v ∷ []) = v ≡ verdict_meant s
AreVerdicts (said.Once s) (v ∷ w ∷ more) = ⊥
AreVerdicts said.Several [] = ⊥
AreVerdicts said.Several (v ∷ []) = ⊥
AreVerdicts said.Several (v ∷ w ∷ more) = ⊤

-- what is told
abbrev pub told_meant : code.Told → OptionsTold
told_meant t = record {
  verdict = option_map verdict_meant t.verdict;
  tags = t.tags;
  attached = option_map (λ word. word.now) t.attached;
  name = option_map (λ word. word.now) t.name;
  mime = option_map (λ word. word.now) t.mime;
  time = option_map (λ word. word.now) t.time;
}
