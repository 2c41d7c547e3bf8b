-- The files that the snapshots of tenants are written to (own).
use Rattle.std.specs.Prelude.{◌≡◌, ℕ, List, [], ◌∷◌, ◌++◌, map, take, Option, Some, None, option_map}
use Rattle.host_form.specs.fab_io.specs.Outside.{Files, with_file, ChangesOnly}
use Rattle.ten_core.specs.vl_design.specs.Snapshots as run
use Rattle.ten_core.specs.ten_plan.specs.Written.{bytes_of}
use Rattle.host_form.specs.host_text.specs.declared.script.TenantLine.{TenantLine}
use Rattle.host_form.specs.Saves.{path_of}
use Rattle.host_files.specs.declared.kept.Kept.{Kept}
use Rattle.host_files.specs.Kept.{saved_in}

-- a file that is written
pub record Write : Type 0 where
  pub path : List ℕ
  pub bytes : List ℕ

-- those of a tenant's snapshots
abbrev pub writes_in : List ℕ → List run.Saved → List Write
writes_in tenant saved = map (λ s. record { path = path_of tenant s.name; bytes = bytes_of s.snapshot }) saved

abbrev pub saved_of_kept : Option Kept → List run.Saved
saved_of_kept None = []
saved_of_kept (Some kept) = saved_in kept

-- those of all tenants, one after the other
abbrev pub writes_of : List TenantLine → List (Option Kept) → List Write
writes_of (t ∷ ts) (k ∷ ks) = writes_in t.name (saved_of_kept k) ++ writes_of ts ks
writes_of _ _ = []

-- the files behind writes
abbrev pub after_writes : List Write → Files → Files
after_writes [] files = files
after_writes (w ∷ ws) files = after_writes ws (with_file w.path w.bytes files)

-- one of the writes failed: those before it are done, none behind it is, and it may have changed the file of its path
pub record LosesOne (writes : List Write) (told after : Option Files) : Type 0 where
  pub done : List Write
  pub lost : Write
  pub behind : List Write
  pub are : writes ≡ done ++ lost ∷ behind
  pub files : ChangesOnly (option_map (after_writes done) told) after lost.path

-- the first of the writes are done, and the next one may have failed
pub data LeavesFront (writes : List Write) (told after : Option Files) : Type 0 where
  written : (n : ℕ) → after ≡ option_map (after_writes (take n writes)) told → LeavesFront writes told after
  failed : LosesOne writes told after → LeavesFront writes told after
