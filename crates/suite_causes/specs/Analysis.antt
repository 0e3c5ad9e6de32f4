-- What the failing tests of a run come to, as searches and by the outputs of their probes alone (docs/FORMATS.md, "Causes").
use Rattle.std.specs.Prelude.{◌≡◌, ℕ, List, [], ◌∷◌, ◌++◌, length, map, take, drop}
use Rattle.std.specs.List.{AllByRecursion}
use Rattle.edge_io.specs.Children.{Output}
use Rattle.edge_io.specs.Spawners.{Spawning}
use Rattle.isolation_bisect.specs.Orders.{asked_of}
use Rattle.isolation_bisect.specs.Verdicts.{Licenses}
use Rattle.isolation_bisect.specs.declared.found.Found.{Found}
use Rattle.isolation_bisect.specs.declared.probe.Asked.{Asked}
use Rattle.packet_codec.specs.declared.event.Event.{Event}
use Rattle.suite_plan.specs.Children.{IsBroken}
use Rattle.testr_conf.specs.Settings.{Settings}
use Rattle.suite_causes.specs.Lines.{cause_line}
use Rattle.suite_causes.specs.Probing.{fails_in}
use Rattle.suite_causes.specs.Searching.{TestIds, IsAmong, SearchesSo}
use Rattle.suite_causes.specs.Suspects.{candidates_of}
use Rattle.suite_causes.specs.declared.suspects.Suspect.{Suspect}

-- the probes of the test, where these outputs come, and as many as the search asks
abbrev pub asked_for : (test : List ℕ) → (candidates : TestIds) → List Output → List Asked
asked_for test candidates outputs = asked_of (length candidates) (map (fails_in test) outputs)

-- a verdict on the test that its answers license, and its line before the rest
pub record HasLine (test : List ℕ) (candidates : TestIds) (asked : List Asked) (Rest : List ℕ → Type 0) (text : List ℕ) : Type 0 where
  pub found : Found
  pub licensed : Licenses asked (length candidates) found
  pub more : List ℕ
  pub text_is : text ≡ cause_line test candidates found ++ more
  pub rest : Rest more

-- The lines of the tests, one after another: of each by its own probes among what ran before it on its lane. The outputs of its
-- probes come behind those of the tests before.
abbrev pub AreCauseLines : List Event → List Suspect → List Output → (text : List ℕ) → Type 0
AreCauseLines events [] outputs text = text ≡ []
AreCauseLines events (one ∷ more) outputs text =
    let candidates = candidates_of one.id one.lane events in
    let asked = asked_for one.id candidates outputs in
    HasLine one.id candidates asked (AreCauseLines events more (drop (length asked) outputs)) text

-- the outputs that the search for the test uses can all be read to their ends, and be waited for
abbrev pub UsesNoBroken : (test : List ℕ) → (candidates : TestIds) → List Output → Type 0
UsesNoBroken test candidates outputs = AllByRecursion (λ output. IsBroken output.finish → ⊥) (take (length (asked_for test candidates outputs)) outputs)

-- a line of some verdict on the test, of which a cause is one of the candidates, before the rest
pub record HasSomeLine (test : List ℕ) (candidates : TestIds) (Rest : List ℕ → Type 0) (text : List ℕ) : Type 0 where
  pub found : Found
  pub among : IsAmong candidates found
  pub more : List ℕ
  pub text_is : text ≡ cause_line test candidates found ++ more
  pub rest : Rest more

-- There is a line for each of the tests, and nothing else. No outputs are needed to say so.
abbrev pub HaveLines : List Event → List Suspect → (text : List ℕ) → Type 0
HaveLines events [] text = text ≡ []
HaveLines events (one ∷ more) text = HasSomeLine one.id (candidates_of one.id one.lane events) (HaveLines events more) text

-- the test was searched among these candidates and came to a verdict, and its line stands before the rest
pub record SearchesFirst (settings : Settings) (candidates : TestIds) (test : List ℕ) (Rest : List ℕ → Spawning → Type 0) (text : List ℕ) (s : Spawning) : Type 0 where
  pub found : Found
  pub between : Spawning
  pub searched : SearchesSo settings candidates test found s between
  pub more : List ℕ
  pub text_is : text ≡ cause_line test candidates found ++ more
  pub rest : Rest more between

-- The tests were searched, one after another, each by its own probes among what ran before it on its lane, and these are
-- their lines. No other program was started.
abbrev pub AreSearched : Settings → List Event → List Suspect → (text : List ℕ) → Spawning → Spawning → Type 0
AreSearched settings events [] text s t = (t ≡ s) × (text ≡ [])
AreSearched settings events (one ∷ more) text s t =
    SearchesFirst settings (candidates_of one.id one.lane events) one.id (λ rest m. AreSearched settings events more rest m t) text s
