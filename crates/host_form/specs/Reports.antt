-- The report of a script (own).
use Rattle.std.specs.Prelude.{◌≡◌, ℕ, ◌+◌, List, [], ◌∷◌, map, ⊤}
use Rattle.host_text.specs.vl_design.specs.declared.design.End.{End}
use Rattle.host_text.specs.vl_design.specs.declared.design.End.TheVariants as end_is
use Rattle.host_text.specs.declared.script.TenantLine.{TenantLine}
use Rattle.host_text.specs.declared.script.Script.{Script}
use Rattle.host_text.specs.declared.block.Status.{Status}
use Rattle.host_text.specs.declared.block.Status.TheVariants.{Finished, Budget, Stopped}
use Rattle.host_text.specs.declared.block.Stay.{Stay}
use Rattle.host_text.specs.declared.block.Block.{Block}
use Rattle.host_text.specs.declared.block.Block.TheVariants as b
use Rattle.host_text.specs.Report.{report}
use Rattle.fab_io.specs.Outside.{Files}
use Rattle.host_form.specs.Origins.{Source, Tenant, IsRead}
use Rattle.host_form.specs.Histories.{Histories, Visit}
use Rattle.host_form.specs.Orders.{Answered, fabric_name, free_line}
use Rattle.host_form.specs.Runs.{Outcome, Refused, Ran, IsOutcome}
use Rattle.host_form.specs.Replies.{AreAnswered}

-- ---- blocks

abbrev pub status_of : End → Status
status_of end_is.Finished = Finished
status_of end_is.Budget = Budget
status_of end_is.Stopped = Stopped

abbrev pub stay_of : Script → Visit → Stay
stay_of s v = record { fabric = fabric_name s v.fabric; from = v.from; to = v.to }

-- what is said of a tenant: the tick and reason of its end, the acts counted and the bytes printed up to there, and its stays; or
-- why it is refused
abbrev pub block_of : Script → List ℕ → Outcome → Block
block_of s name (Refused place kind) = b.Refused (record { name = name; place = place; kind = kind })
block_of s name (Ran r) = b.Ran (record {
  name = name;
  status = status_of r.reason;
  ticks = r.tick;
  cycles = r.last.state.count;
  printed = r.last.state.printed;
  stays = map (stay_of s) r.visits;
})

abbrev pub blocks_of : Script → List Tenant → List Outcome → List Block
blocks_of s (t ∷ ts) (x ∷ xs) = block_of s t.line.name x ∷ blocks_of s ts xs
blocks_of s ts xs = []

-- ---- all tenants

-- each tenant is what the store tells of its line
abbrev pub AreRead : (List ℕ → Source → Type 0) → Files → List TenantLine → List Tenant → Type 0
AreRead judged told [] [] = ⊤
AreRead judged told [] (t ∷ ts) = ⊥
AreRead judged told (l ∷ ls) [] = ⊥
AreRead judged told (l ∷ ls) (t ∷ ts) = IsRead judged told l t × AreRead judged told ls ts

-- what comes of tenants, which have numbers from n on
abbrev pub AreOutcomes : Script → Histories → List Answered → ℕ → List Tenant → List Outcome → Type 0
AreOutcomes s histories answers n [] [] = ⊤
AreOutcomes s histories answers n [] (x ∷ xs) = ⊥
AreOutcomes s histories answers n (t ∷ ts) [] = ⊥
AreOutcomes s histories answers n (t ∷ ts) (x ∷ xs) = IsOutcome s.fabrics histories answers n t x × AreOutcomes s histories answers (n + 1) ts xs

-- ---- the report

-- the bytes are a report of a script, where judged says what the bytes of a source are judged to be, the store tells these files, and
-- the fabrics have these histories: a block for each tenant, and a line for each free order with a reply that it may have
pub record IsReport (judged : List ℕ → Source → Type 0) (told : Files) (s : Script) (histories : Histories) (bytes : List ℕ) : Type 0 where
  pub tenants : List Tenant
  pub outcomes : List Outcome
  pub answers : List Answered
  pub read : AreRead judged told s.tenants tenants
  pub comes : AreOutcomes s histories answers 0 tenants outcomes
  pub orders : map (λ a. a.order) answers ≡ s.free
  pub replies : AreAnswered s.fabrics histories outcomes [] answers
  pub is : bytes ≡ report (blocks_of s tenants outcomes) (map (free_line s) answers)
