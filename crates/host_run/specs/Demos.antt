-- What is due for the demonstration.
use Rattle.std.specs.Prelude.{◌≡◌, ℕ, List, Ok}
use Rattle.host_form.specs.fab_io.specs.Outside.{Files}
use Rattle.fab_rounds.specs.fab_bay.specs.declared.noted.NotedCore.{NotedCore}
use Rattle.host_text.specs.declared.block.Block.{Block}
use Rattle.host_text.specs.declared.script.Script.{Script}
use Rattle.host_text.specs.Reading.{reading}
use Rattle.host_run.specs.Reported.{AreBays}
use Rattle.host_run.specs.Runs.{HasBlocks}
use Rattle.host_demo.specs.Sources.{files_of}
use Rattle.host_demo.specs.Summary.{summary}
use Rattle.host_demo.specs.Texts as demo

-- the text is a summary of a run over these files: these bytes have a reading, a script; the bays are those of its fabrics; it has a report by
-- the histories of these bays; and the text is the summary of the blocks of that report
pub record IsSummed (files : Files) (bytes text : List ℕ) (bays : List NotedCore) : Type 0 where
  pub script : Script
  pub reads : reading bytes ≡ Ok script
  pub fabrics : AreBays script bays
  pub blocks : List Block
  pub ran : HasBlocks files script bays blocks
  pub is : text ≡ summary blocks

-- so it is of the script of the demonstration with so many tenants, over a store with its own sources alone
abbrev pub IsShown : ℕ → List ℕ → List NotedCore → Type 0
IsShown tenants text bays = IsSummed (files_of tenants) (demo.script tenants) text bays
