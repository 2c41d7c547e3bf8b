-- Snapshots that are made at one tick, in whatever order.
use Rattle.std.proofs.Common.{◌≡◌, ℕ, suc, ◌+◌, ◌≤◌, Bool, true, false, cond, ◌&&◌, ◌||◌, ◌==◌, nat_lt, if◌then◌else◌, List, [], ◌∷◌, ◌++◌, length, map, filter, drop, drop_at, codes, Some, sum_by, refl, sym, subst, ap, ◌∙◌, zero-add, arith}
use Rattle.std.specs.Prelude.{⊤}
use Rattle.std.specs.Str.{bytes_eq}
use Rattle.std.specs.List.{AllByRecursion, list_any}
use Rattle.std.proofs.lemmas.Slice.Eq.{bytes_eq-Decides}
use Rattle.std.proofs.lemmas.Bool.Decides.{nat_tests}
use Rattle.std.proofs.Math.Path.{fun_ext}
use Rattle.std.proofs.lemmas.List.Folds.{list_any-append}
use Rattle.std.proofs.lemmas.List.Sums.{sum_by-cons}
use Rattle.fab_io.specs.Outside.{Files, with_file}
use Rattle.fab_io.proofs.Files.{with_file-swap, with_file-twice}
use Rattle.host_text.specs.ten_plan.specs.Written.{bytes_of}
use Rattle.host_text.specs.vl_design.specs.State.{State}
use Rattle.host_text.specs.vl_design.specs.Queue.{Queue}
use Rattle.host_text.specs.vl_design.specs.Snapshots.{Snapshot, Saved, snapshot_of, saved_over, all_saved}
use Rattle.host_text.specs.vl_design.specs.Alone.{Origin, FreeSave, Keeps, at_first, at_next, first_tick, due_at, free_names, saved_at}
use Rattle.host_text.specs.vl_design.proofs.Settling.{boundary_once}
use Rattle.host_form.specs.Saves.{path_of, with_saves, IsReordered}
use Rattle.host_text.specs.vl_design.proofs.Shared.{from_first}

-- ---- paths

front_off : (front a b : List ℕ) → front ++ a ≡ front ++ b → a ≡ b
front_off front a b e = sym (drop_at front a (length front) refl) ∙ ap (drop (length front)) e ∙ drop_at front b (length front) refl

-- names that differ have paths that differ
paths-apart : (tenant a b : List ℕ) → bytes_eq a b ≡ false → bytes_eq (path_of tenant a) (path_of tenant b) ≡ false
paths-apart tenant a b apart = by (bytes_eq (path_of tenant a) (path_of tenant b)) refl
  where
    by : (t : Bool) → bytes_eq (path_of tenant a) (path_of tenant b) ≡ t → t ≡ false
    by false e = refl
    by true e =
        let whole : path_of tenant a ≡ path_of tenant b = (bytes_eq-Decides (path_of tenant a) (path_of tenant b)).0 e in
        let same : a ≡ b = front_off (tenant ++ codes ".") a b whole in
        sym ((bytes_eq-Decides a b).1 same) ∙ apart

-- ---- names

-- none of these has the name
abbrev Lacks : List ℕ → List Saved → Type 0
Lacks name saved = AllByRecursion (λ s. bytes_eq name s.name ≡ false) saved

-- no two have one name
abbrev AreApart : List Saved → Type 0
AreApart [] = ⊤
AreApart (x ∷ xs) = Lacks x.name xs × AreApart xs

lacks-over : (name : List ℕ) (saved : List Saved) (s : Saved) → Lacks name saved → bytes_eq name s.name ≡ false → Lacks name (saved_over saved s)
lacks-over name [] s h e = (e, tt)
lacks-over name (x ∷ xs) s h e = by (bytes_eq x.name s.name) (lacks-over name xs s h.1 e)
  where
    by : (t : Bool) → Lacks name (saved_over xs s) → Lacks name (if t then s ∷ xs else x ∷ saved_over xs s)
    by true rest = (e, h.1)
    by false rest = (h.0, rest)

apart-over : (saved : List Saved) (s : Saved) → AreApart saved → AreApart (saved_over saved s)
apart-over [] s h = (tt, tt)
apart-over (x ∷ xs) s h = by (bytes_eq x.name s.name) refl (apart-over xs s h.1)
  where
    by : (t : Bool) → bytes_eq x.name s.name ≡ t → AreApart (saved_over xs s) → AreApart (if t then s ∷ xs else x ∷ saved_over xs s)
    by true e rest = (subst (λ name. Lacks name xs) ((bytes_eq-Decides x.name s.name).0 e) h.0, h.1)
    by false e rest = (lacks-over x.name xs s h.0 e, rest)

apart-all : (saved : List Saved) (names : List (List ℕ)) (snapshot : Snapshot) → AreApart saved → AreApart (all_saved saved names snapshot)
apart-all saved [] snapshot h = h
apart-all saved (n ∷ ns) snapshot h =
    let s : Saved = record { name = n; snapshot = snapshot } in
    apart-all (saved_over saved s) ns snapshot (apart-over saved s h)

-- ---- files

-- what others are written over stays, and may come last
written-under : (tenant : List ℕ) (saved : List Saved) (name bytes : List ℕ) (files : Files) → Lacks name saved
    → with_saves tenant saved (with_file (path_of tenant name) bytes files) ≡ with_file (path_of tenant name) bytes (with_saves tenant saved files)
written-under tenant [] name bytes files h = refl
written-under tenant (x ∷ xs) name bytes files h =
    ap (with_saves tenant xs) (with_file-swap (path_of tenant name) bytes (path_of tenant x.name) (bytes_of x.snapshot) files (paths-apart tenant name x.name h.0))
    ∙ written-under tenant xs name bytes (with_file (path_of tenant x.name) (bytes_of x.snapshot) files) h.1

-- these leave the files that those leave, with one more snapshot written
abbrev IsOver : List ℕ → List Saved → Saved → Files → List Saved → Type 0
IsOver tenant saved s files more = with_saves tenant more files ≡ with_file (path_of tenant s.name) (bytes_of s.snapshot) (with_saves tenant saved files)

-- one more snapshot is one more file that is written, or written over
written-over : (tenant : List ℕ) (saved : List Saved) (s : Saved) (files : Files) → AreApart saved → IsOver tenant saved s files (saved_over saved s)
written-over tenant [] s files h = refl
written-over tenant (x ∷ xs) s files h =
    by (bytes_eq x.name s.name) refl (written-over tenant xs s (with_file (path_of tenant x.name) (bytes_of x.snapshot) files) h.1)
  where
    by : (t : Bool) → bytes_eq x.name s.name ≡ t → IsOver tenant (x ∷ xs) s files (x ∷ saved_over xs s)
        → IsOver tenant (x ∷ xs) s files (if t then s ∷ xs else x ∷ saved_over xs s)
    by false e rest = rest
    by true e rest =
        let same : x.name ≡ s.name = (bytes_eq-Decides x.name s.name).0 e in
        let lacks : Lacks s.name xs = subst (λ name. Lacks name xs) same h.0 in
        let name = path_of tenant s.name in
        let bytes = bytes_of s.snapshot in
        written-under tenant xs s.name bytes files lacks
        ∙ with_file-twice name bytes (bytes_of x.snapshot) (with_saves tenant xs files)
        ∙ ap (with_file name bytes) (sym (written-under tenant xs s.name (bytes_of x.snapshot) files lacks))
        ∙ ap (λ (other : List ℕ). with_file name bytes (with_saves tenant xs (with_file (path_of tenant other) (bytes_of x.snapshot) files))) (sym same)

either_one : {X : Type 0} (p q : Bool) (x y : X) → cond q x (cond p x y) ≡ cond (p || q) x y
either_one true true x y = refl
either_one true false x y = refl
either_one false q x y = refl

-- the path is that of a name
abbrev is_path : List ℕ → List ℕ → List ℕ → Bool
is_path tenant path name = bytes_eq path (path_of tenant name)

-- snapshots of one state are at the paths of their names, and other paths have what they had
written-all : (tenant : List ℕ) (saved : List Saved) (names : List (List ℕ)) (snapshot : Snapshot) (files : Files) (path : List ℕ) → AreApart saved
    → with_saves tenant (all_saved saved names snapshot) files path
    ≡ (if list_any (is_path tenant path) names then Some (bytes_of snapshot) else with_saves tenant saved files path)
written-all tenant saved [] snapshot files path h = refl
written-all tenant saved (n ∷ ns) snapshot files path h =
    let s : Saved = record { name = n; snapshot = snapshot } in
    let first : with_saves tenant (saved_over saved s) files path ≡ (if is_path tenant path n then Some (bytes_of snapshot) else with_saves tenant saved files path) =
    ap (λ f. f path) (written-over tenant saved s files h) in
    written-all tenant (saved_over saved s) ns snapshot files path (apart-over saved s h)
    ∙ ap (λ before. if list_any (is_path tenant path) ns then Some (bytes_of snapshot) else before) first
    ∙ either_one (is_path tenant path n) (list_any (is_path tenant path) ns) (Some (bytes_of snapshot)) (with_saves tenant saved files path)

-- ---- order

-- one where it is made at this tick under a name that passes
abbrev weight : (List ℕ → Bool) → ℕ → FreeSave → ℕ
weight test k f = cond ((f.tick == k) && test f.name) 1 0

-- a name passes where the weights sum to more than nothing
any-weighs : (test : List ℕ → Bool) (k : ℕ) (free : List FreeSave) → list_any test (free_names k free) ≡ nat_lt 0 (sum_by (weight test k) free)
any-weighs test k [] = refl
any-weighs test k (f ∷ fs) =
    by (f.tick == k) (test f.name) refl (any-weighs test k fs)
    ∙ ap (nat_lt 0) (sym (sum_by-cons (weight test k) f fs))
  where
    more : (n : ℕ) → true ≡ nat_lt 0 (1 + n)
    more n = grind (arith, nat_tests)

    none : (n : ℕ) → nat_lt 0 n ≡ nat_lt 0 (0 + n)
    none n = ap (nat_lt 0) (sym (zero-add n))

    by : (b t : Bool) → test f.name ≡ t → list_any test (free_names k fs) ≡ nat_lt 0 (sum_by (weight test k) fs)
        → list_any test (map (λ g. g.name) (cond b (f ∷ filter (λ g. g.tick == k) fs) (filter (λ g. g.tick == k) fs)))
        ≡ nat_lt 0 (cond (b && t) 1 0 + sum_by (weight test k) fs)
    by false t e rest = rest ∙ none (sum_by (weight test k) fs)
    by true true e rest = ap (λ c. c || list_any test (free_names k fs)) e ∙ more (sum_by (weight test k) fs)
    by true false e rest = ap (λ c. c || list_any test (free_names k fs)) e ∙ rest ∙ none (sum_by (weight test k) fs)

any-reordered : (test : List ℕ → Bool) (k : ℕ) (due : List (List ℕ)) (free others : List FreeSave) → IsReordered free others
    → list_any test (due ++ free_names k free) ≡ list_any test (due ++ free_names k others)
any-reordered test k due free others h =
    let same : list_any test (free_names k free) ≡ list_any test (free_names k others) =
    any-weighs test k free ∙ ap (nat_lt 0) (h (weight test k)) ∙ sym (any-weighs test k others) in
    list_any-append test due (free_names k free) ∙ ap (λ b. list_any test due || b) same ∙ sym (list_any-append test due (free_names k others))

-- ---- tick by tick

keeps-apart : {o : Origin} {free : List FreeSave} {k : ℕ} {saved : List Saved} → Keeps o free k saved → AreApart saved
keeps-apart {o} {free} {k} (at_first {q = q} e b) = apart-all [] (due_at o.plan k q.state ++ free_names k free) (snapshot_of o.flat.rows q.state) tt
keeps-apart {o} {free} {k} (at_next {saved = saved} {q = q} x b) = apart-all saved (due_at o.plan k q.state ++ free_names k free) (snapshot_of o.flat.rows q.state) (keeps-apart x)

module _ (o : Origin) (free others : List FreeSave) (tenant : List ℕ) (files : Files) (path : List ℕ) (reordered : IsReordered free others) where
  -- the same file at the path
  abbrev Same : List Saved → List Saved → Type 0
  Same saved kept = with_saves tenant saved files path ≡ with_saves tenant kept files path

  same-at : (k : ℕ) (s : State) (saved kept : List Saved) → AreApart saved → AreApart kept → Same saved kept → Same (saved_at o free saved k s) (saved_at o others kept k s)
  same-at k s saved kept a b e =
      let due = due_at o.plan k s in
      let snapshot = snapshot_of o.flat.rows s in
      let test = is_path tenant path in
      written-all tenant saved (due ++ free_names k free) snapshot files path a
      ∙ ap (λ t. if t then Some (bytes_of snapshot) else with_saves tenant saved files path) (any-reordered test k due free others reordered)
      ∙ ap (λ before. if list_any test (due ++ free_names k others) then Some (bytes_of snapshot) else before) e
      ∙ sym (written-all tenant kept (due ++ free_names k others) snapshot files path b)

  same-kept : {k : ℕ} {saved kept : List Saved} → Keeps o free k saved → Keeps o others k kept → Same saved kept
  same-kept {k} (at_first {q = q} e b) (at_first {q = r} f c) =
      subst (λ (z : Queue). Same (saved_at o free [] k q.state) (saved_at o others [] k z.state)) (boundary_once b c) (same-at k q.state [] [] tt tt refl)
  same-kept (at_first e b) (at_next y c) = absurd (omega (arith, e, from_first y))
  same-kept (at_next x b) (at_first f c) = absurd (omega (arith, f, from_first x))
  same-kept {k} (at_next {saved = saved} {q = q} x b) (at_next {saved = kept} {q = r} y c) =
      subst (λ (z : Queue). Same (saved_at o free saved k q.state) (saved_at o others kept k z.state)) (boundary_once b c)
      (same-at k q.state saved kept (keeps-apart x) (keeps-apart y) (same-kept x y))

-- they are kept of the same run
kept-too : {o : Origin} {free : List FreeSave} (others : List FreeSave) {k : ℕ} {saved : List Saved} → Keeps o free k saved → (kept : List Saved) × Keeps o others k kept
kept-too {o} others (at_first {k = k} {q = q} e b) = (saved_at o others [] k q.state, at_first e b)
kept-too {o} others (at_next {k = k} {q = q} x b) = let y = kept-too others x in (saved_at o others y.0 (suc k) q.state, at_next y.1 b)

pub any-order : (o : Origin) (free others : List FreeSave) {k : ℕ} {saved : List Saved} → IsReordered free others → Keeps o free k saved
    → (kept : List Saved) × Keeps o others k kept × ((tenant : List ℕ) (files : Files) → with_saves tenant kept files ≡ with_saves tenant saved files)
any-order o free others h a =
    let y = kept-too others a in
    (y.0, y.1, λ tenant files. fun_ext (λ path. sym (same-kept o free others tenant files path h a y.1)))
