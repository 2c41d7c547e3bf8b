-- The snapshots that a script leaves in the store (own).
use Rattle.std.specs.Prelude.{◌≡◌, ℕ, ◌+◌, List, [], ◌∷◌, ◌++◌, map, codes}
use Rattle.std.specs.List.{sum_by}
use Rattle.fab_io.specs.Outside.{Files, with_file}
use Rattle.host_text.specs.vl_design.specs.Snapshots.{Saved}
use Rattle.host_text.specs.vl_design.specs.Alone.{FreeSave, Keeps}
use Rattle.host_text.specs.ten_plan.specs.Written.{bytes_of}
use Rattle.host_text.specs.declared.script.Script.{Script}
use Rattle.host_form.specs.Origins.{Source, Tenant}
use Rattle.host_form.specs.Histories.{Histories}
use Rattle.host_form.specs.Orders.{Answered, saves_of}
use Rattle.host_form.specs.Runs.{Outcome, Refused, Ran}
use Rattle.host_form.specs.Reports.{IsReport}

-- the path of a snapshot: the tenant's name, a dot, and its own name
abbrev pub path_of : List ℕ → List ℕ → List ℕ
path_of tenant name = tenant ++ codes "." ++ name

-- the files with the snapshots of a tenant written in order
abbrev pub with_saves : List ℕ → List Saved → Files → Files
with_saves tenant [] files = files
with_saves tenant (s ∷ saved) files = with_saves tenant saved (with_file (path_of tenant s.name) (bytes_of s.snapshot) files)

-- the snapshots that are kept of the tenant of a number: those of its run up to its end, and of free orders
abbrev pub IsKept : List Answered → ℕ → Outcome → List Saved → Type 0
IsKept answers n (Refused place kind) saved = saved ≡ []
IsKept answers n (Ran r) saved = Keeps r.origin (saves_of n answers) r.tick saved

-- the files become others as the kept snapshots of tenants, which have numbers from n on, are written
abbrev pub AreSaved : List Answered → ℕ → List Tenant → List Outcome → Files → Files → Type 0
AreSaved answers n [] xs before after = after ≡ before
AreSaved answers n (t ∷ ts) [] before after = after ≡ before
AreSaved answers n (t ∷ ts) (x ∷ xs) before after =
    (saved : List Saved) × IsKept answers n x saved × AreSaved answers (n + 1) ts xs (with_saves t.line.name saved before) after

-- the files behind a report: those told before it, with the kept snapshots of each tenant written, in the order of the script
abbrev pub LeavesFiles : (judged : List ℕ → Source → Type 0) (told : Files) (s : Script) (histories : Histories) (bytes : List ℕ)
    → IsReport judged told s histories bytes → Files → Type 0
LeavesFiles judged told s histories bytes r after = AreSaved r.answers 0 r.tenants r.outcomes told after

-- the same snapshots are made besides, each as often, in any order
abbrev pub IsReordered : List FreeSave → List FreeSave → Type 0
IsReordered xs ys = (w : FreeSave → ℕ) → sum_by w xs ≡ sum_by w ys
