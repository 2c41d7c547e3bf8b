-- A clocked block without faults sets no memory at once, also with its loops unrolled: an assignment to a word is nonblocking, and
-- nothing is read into a memory.
use Rattle.std.proofs.Common.{◌≡◌, ℕ, zero, suc, Bool, true, false, List, [], ◌∷◌, Option, Some, None, refl, subst}
use Rattle.std.specs.Prelude.{◌++◌, ◌&&◌, ⊤, slice_get, flat_map, if◌then◌else◌, codes}
use Rattle.std.specs.List.{list_any}
use Rattle.std.specs.Str.{bytes_eq}
use Rattle.vl_loops.specs.vl_base.specs.declared.bits.UnOp.TheVariants as u
use Rattle.vl_loops.specs.vl_design.specs.declared.design.ProcKind.{ProcKind}
use Rattle.vl_loops.specs.vl_design.specs.declared.design.ProcKind.TheVariants.{Init, Rise, Fall, Comb, Assign}
use Rattle.vl_loops.specs.vl_design.specs.declared.design.SigKind.{SigKind}
use Rattle.vl_loops.specs.vl_design.specs.declared.design.SigKind.TheVariants as kind
use Rattle.vl_loops.specs.vl_design.specs.Calls.{task_of, save_of, fopen_of, fread_of, file_of, read_hex_of}
use Rattle.vl_loops.specs.vl_design.specs.Exec.{exec, goes_on, most_turns}
use Rattle.vl_loops.specs.vl_design.specs.Formats as f
use Rattle.vl_loops.specs.vl_design.specs.Placed as p
use Rattle.vl_loops.specs.vl_design.specs.Plainly as plain
use Rattle.vl_loops.specs.vl_design.specs.Queue.{is_rise, is_fall}
use Rattle.vl_loops.specs.vl_design.specs.Reads.{target_writes, targets_write, task_writes}
use Rattle.vl_loops.specs.vl_design.specs.Sound.{IsOf, HasValue, IsSoundBase, IsSoundTarget, AreSoundTargets, IsSoundTask, IsSoundStm, AreSoundItems}
use Rattle.vl_loops.specs.vl_design.specs.State.{State}
use Rattle.vl_loops.specs.vl_design.specs.Stops.{construct_if}
use Rattle.vl_loops.specs.vl_design.specs.Syntax as d
use Rattle.vl_loops.specs.vl_design.specs.Width.{Names, Scope}
use Rattle.sub_runs.specs.vl_sites.specs.Sites as s
use Rattle.vl_loops.specs.Unroll.{put_target, put_targets, put_task, unrolled, unrolled_items, in_turns, so_many}
use Rattle.elab_laws.specs.vl_check.specs.Bodies.{Setting, role_of, of_process, kind_is}
use Rattle.elab_laws.specs.vl_check.specs.Headers.{loop_faults}
use Rattle.elab_laws.specs.vl_check.specs.Rules.{is_clock, is_loop, names, sets, is_delay, is_task, is_pure, is_foreign, writes_memory, site_faults, sites_faults}
use Rattle.elab_laws.specs.vl_check.specs.Standing.{body_faults, process_faults}
use Rattle.elab_laws.specs.vl_accept.proofs.Clean.{left-none, right-none, not-stopped, or-both}
use Rattle.elab_laws.specs.vl_accept.proofs.Pure.{Free, free-left, free-right}
use Rattle.sub_runs.specs.Memories.{is_mem, is_mem_row, memory_at, stm_sets, items_set}

-- a blocking assignment to a word
abbrev pub stores : s.What → Bool
stores = writes_memory (role_of Rise)

-- ---- bodies of clocked blocks without faults

site-free : (b : Setting) (x : s.Site) → site_faults b x ≡ [] → writes_memory b.role x.what ≡ false
site-free b x h =
    not-stopped (writes_memory b.role x.what) x.at 22
    (left-none (construct_if (writes_memory b.role x.what) x.at 22) _
    (right-none (construct_if (sets (kind_is is_loop (b.shared ++ b.own)) x.what) x.at 21) _
    (right-none (construct_if (is_foreign b.role b.shared x.what) x.at 20) _
    (right-none (construct_if (is_pure b.role && is_task x.what) x.at 18) _
    (right-none (construct_if (is_pure b.role && is_delay x.what) x.at 17) _
    (right-none (construct_if (names (kind_is is_clock b.shared) x.what) x.at 15) _ h))))))

sites-free : (b : Setting) (xs : List s.Site) → flat_map (site_faults b) xs ≡ [] → Free (writes_memory b.role) xs
sites-free b [] h = refl
sites-free b (x ∷ xs) h =
    or-both (writes_memory b.role x.what) (list_any (λ y. writes_memory b.role y.what) xs)
    (site-free b x (left-none (site_faults b x) (flat_map (site_faults b) xs) h)) (sites-free b xs (right-none (site_faults b x) (flat_map (site_faults b) xs) h))

pub rise-clocked : (k : ProcKind) → is_rise k ≡ true → role_of k ≡ role_of Rise
rise-clocked Rise h = refl
rise-clocked Fall h = refl
rise-clocked Init h = let z : ⊥ = cc in absurd z
rise-clocked Comb h = let z : ⊥ = cc in absurd z
rise-clocked Assign h = let z : ⊥ = cc in absurd z

pub fall-clocked : (k : ProcKind) → is_fall k ≡ true → role_of k ≡ role_of Rise
fall-clocked Rise h = refl
fall-clocked Fall h = refl
fall-clocked Init h = let z : ⊥ = cc in absurd z
fall-clocked Comb h = let z : ⊥ = cc in absurd z
fall-clocked Assign h = let z : ⊥ = cc in absurd z

pub clocked-free : (x : p.Design) (before : List p.Process) (a : p.Process) → role_of a.kind ≡ role_of Rise → process_faults x before a ≡ [] → Free stores (s.sites a.body)
clocked-free x before a clocked h =
    let b = of_process x a in
    let body = left-none (body_faults b a.body) _ h in
    subst (λ r. Free (writes_memory r) (s.sites a.body)) clocked (sites-free b (s.sites a.body) (left-none (sites_faults b a.body) (loop_faults b [] a.body) body))

-- ---- system calls

-- the call loads no memory
abbrev LoadsNone : d.Task → Type 0
LoadsNone (d.ReadHex name m) = ⊥
LoadsNone task = ⊤

load-free : (given : p.Args) → Free stores (s.loaded given) → LoadsNone (read_hex_of (plain.args given))
load-free p.NoArgs h = tt
load-free (p.NullArg others) h = tt
load-free (p.ValueArg e others) h = tt
load-free (p.TextArg text p.NoArgs) h = tt
load-free (p.TextArg text (p.NullArg others)) h = tt
load-free (p.TextArg text (p.TextArg more others)) h = tt
load-free (p.TextArg text (p.ValueArg (p.Sig at k) others)) h = let z : ⊥ = cc in absurd z
load-free (p.TextArg text (p.ValueArg (p.Num at v w signed) others)) h = tt
load-free (p.TextArg text (p.ValueArg (p.Label at v care w signed) others)) h = tt
load-free (p.TextArg text (p.ValueArg (p.Word at m a) others)) h = tt
load-free (p.TextArg text (p.ValueArg (p.Pick at b i from w) others)) h = tt
load-free (p.TextArg text (p.ValueArg (p.Slice at b low w) others)) h = tt
load-free (p.TextArg text (p.ValueArg (p.Un at op a) others)) h = tt
load-free (p.TextArg text (p.ValueArg (p.Bin at op a b) others)) h = tt
load-free (p.TextArg text (p.ValueArg (p.Cond at c a b) others)) h = tt
load-free (p.TextArg text (p.ValueArg (p.Cat at es) others)) h = tt
load-free (p.TextArg text (p.ValueArg (p.Rep at n es) others)) h = tt
load-free (p.TextArg text (p.ValueArg (p.Cast at signed a) others)) h = tt
load-free (p.TextArg text (p.ValueArg (p.Call at g es) others)) h = tt
load-free (p.TextArg text (p.ValueArg (p.Time at) others)) h = tt
load-free (p.TextArg text (p.ValueArg (p.Sys at name given) others)) h = tt

-- what the other calls are loads none
save-loads : (args : List f.Arg) → LoadsNone (save_of args)
save-loads [] = tt
save-loads (f.Null ∷ args) = tt
save-loads (f.Str name ∷ args) = tt
save-loads (f.Value e ∷ args) = tt

fopen-loads : (args : List f.Arg) → LoadsNone (fopen_of args)
fopen-loads [] = tt
fopen-loads (f.Null ∷ args) = tt
fopen-loads (f.Str name ∷ args) = tt
fopen-loads (f.Value e ∷ args) = tt

file-loads : (make : d.Exp → d.Task) → ((e : d.Exp) → LoadsNone (make e)) → (args : List f.Arg) → LoadsNone (file_of make args)
file-loads make h [] = tt
file-loads make h (f.Null ∷ args) = tt
file-loads make h (f.Str name ∷ args) = tt
file-loads make h (f.Value e ∷ args) = h e

fread-loads : (given : p.Args) → LoadsNone (fread_of (plain.args given))
fread-loads p.NoArgs = tt
fread-loads (p.NullArg others) = tt
fread-loads (p.TextArg text others) = tt
fread-loads (p.ValueArg (p.Sig at k) p.NoArgs) = tt
fread-loads (p.ValueArg (p.Sig at k) (p.NullArg others)) = tt
fread-loads (p.ValueArg (p.Sig at k) (p.TextArg text others)) = tt
fread-loads (p.ValueArg (p.Sig at k) (p.ValueArg fd others)) = tt
fread-loads (p.ValueArg (p.Num at v w signed) others) = tt
fread-loads (p.ValueArg (p.Label at v care w signed) others) = tt
fread-loads (p.ValueArg (p.Word at m a) others) = tt
fread-loads (p.ValueArg (p.Pick at b i from w) others) = tt
fread-loads (p.ValueArg (p.Slice at b low w) others) = tt
fread-loads (p.ValueArg (p.Un at op a) others) = tt
fread-loads (p.ValueArg (p.Bin at op a b) others) = tt
fread-loads (p.ValueArg (p.Cond at c a b) others) = tt
fread-loads (p.ValueArg (p.Cat at es) others) = tt
fread-loads (p.ValueArg (p.Rep at n es) others) = tt
fread-loads (p.ValueArg (p.Cast at signed a) others) = tt
fread-loads (p.ValueArg (p.Call at g es) others) = tt
fread-loads (p.ValueArg (p.Time at) others) = tt
fread-loads (p.ValueArg (p.Sys at name given) others) = tt

pick : (b : Bool) (x y : d.Task) → LoadsNone x → LoadsNone y → LoadsNone (if b then x else y)
pick true x y h k = h
pick false x y h k = k

call-loads : (path name : List ℕ) (given : p.Args) → Free stores (s.call_sites name given (s.args_sites given)) → LoadsNone (task_of path name (plain.args given))
call-loads path name given h =
    pick (bytes_eq name (codes "$display")) _ _ tt (pick (bytes_eq name (codes "$write")) _ _ tt (pick (bytes_eq name (codes "$finish")) _ _ tt
    (pick (bytes_eq name (codes "$save")) _ _ (save-loads (plain.args given)) (pick (bytes_eq name (codes "$fopen")) _ _ (fopen-loads (plain.args given))
    (pick (bytes_eq name (codes "$fread")) _ _ (fread-loads given)
    (pick (bytes_eq name (codes "$fgetc")) _ _ (file-loads d.Fgetc (λ e. tt) (plain.args given)) (pick (bytes_eq name (codes "$feof")) _ _ (file-loads d.Feof (λ e. tt) (plain.args given))
    (pick (bytes_eq name (codes "$fclose")) _ _ (file-loads d.Fclose (λ e. tt) (plain.args given)) (load (bytes_eq name (codes "$readmemh")) refl)))))))))
  where
    load : (b : Bool) → bytes_eq name (codes "$readmemh") ≡ b → LoadsNone (if b then read_hex_of (plain.args given) else d.Print [] false)
    load false e = tt
    load true e = load-free given (subst (λ (z : Bool). Free stores (if z then s.loaded given else (if s.is_fill name then s.first_bare false given else []) ++ s.args_sites given)) e h)

-- ---- what is sound

with-value : (k : SigKind) → HasValue k → is_mem k ≡ false
with-value kind.Mem h = absurd h
with-value kind.Net h = refl
with-value kind.Var h = refl
with-value kind.Comb h = refl
with-value kind.Loop h = refl
with-value kind.Clock h = refl

-- a signal that has a value is no memory
pub signal-row : (x : Option d.Row) → IsOf HasValue x → is_mem_row x ≡ false
signal-row None h = absurd h
signal-row (Some r) h = with-value r.kind h.0

-- names of the design with its loops unrolled
module _ (scope : Scope) (next : Names) where
  abbrev is_memory : ℕ → Bool
  is_memory = memory_at next.rows

  base-sets : (t : p.Target) (at : List (List ℕ)) → Free stores (s.target_sites false t) → IsSoundBase next (put_target scope.names.rows at (plain.target t))
      → target_writes is_memory (put_target scope.names.rows at (plain.target t)) ≡ false
  base-sets (p.Whole place k) at c h = signal-row (slice_get next.rows k) h
  base-sets (p.WordAt place m a) at c h = let z : ⊥ = cc in absurd z
  base-sets (p.PickAt place b i from w) at c h = absurd h
  base-sets (p.SliceAt place b low w) at c h = absurd h
  base-sets (p.Several place ts) at c h = absurd h

  mutual
    target-sets : (t : p.Target) (at : List (List ℕ)) → Free stores (s.target_sites false t) → IsSoundTarget next (put_target scope.names.rows at (plain.target t))
        → target_writes is_memory (put_target scope.names.rows at (plain.target t)) ≡ false
    target-sets (p.Whole place k) at c h = signal-row (slice_get next.rows k) h
    target-sets (p.WordAt place m a) at c h = let z : ⊥ = cc in absurd z
    target-sets (p.PickAt place b i from w) at c h = base-sets b at (free-left stores (s.target_sites false b) (s.exp_sites i) c) h.1
    target-sets (p.SliceAt place b low w) at c h = base-sets b at c h.1
    target-sets (p.Several place ts) at c h = targets-set ts at c h.1

    targets-set : (ts : p.Targets) (at : List (List ℕ)) → Free stores (s.targets_sites false ts) → AreSoundTargets next (put_targets scope.names.rows at (plain.targets ts))
        → targets_write is_memory (put_targets scope.names.rows at (plain.targets ts)) ≡ false
    targets-set p.NoTargets at c h = refl
    targets-set (p.MoreTargets t ts) at c h =
        or-both _ _ (target-sets t at (free-left stores (s.target_sites false t) (s.targets_sites false ts) c) h.0)
        (targets-set ts at (free-right stores (s.target_sites false t) (s.targets_sites false ts) c) h.1)

  task-sets : (task : d.Task) (at : List (List ℕ)) → LoadsNone task → IsSoundTask next (put_task scope.names.rows at task) → task_writes is_memory (put_task scope.names.rows at task) ≡ false
  task-sets (d.Print pieces newline) at n h = refl
  task-sets (d.Finish es) at n h = refl
  task-sets (d.Save name) at n h = refl
  task-sets (d.Fopen name) at n h = refl
  task-sets (d.Fread k fd) at n h = signal-row (slice_get next.rows k) h.0
  task-sets (d.Fgetc fd) at n h = refl
  task-sets (d.Feof fd) at n h = refl
  task-sets (d.Fclose fd) at n h = refl
  task-sets (d.ReadHex name m) at n h = absurd n

  -- ---- statements with their loops unrolled

  -- where it is sound it sets no memory
  abbrev SetsNone : d.Stm → Type 0
  SetsNone a = IsSoundStm next a → stm_sets is_memory a ≡ false

  turns-set : {S : Type 0} (n : ℕ) (test : S → Bool) (step : S → S) (g : S → d.Stm) → ((x : S) → SetsNone (g x)) → (x : S) → SetsNone (in_turns n test step g x)
  turns-set zero test step g h x w = refl
  turns-set (suc n) test step g h x w = at (test x) (turns-set n test step g h (step x)) w
    where
      at : (b : Bool) → SetsNone (in_turns n test step g (step x)) → SetsNone (elim b [ true ↦ d.Then (g x) (in_turns n test step g (step x)) | false ↦ d.Nop ])
      at true k v = or-both _ _ (h x v.0) (k v.1)
      at false k v = refl

  many-set : (n : ℕ) (a : d.Stm) → SetsNone a → SetsNone (so_many n a)
  many-set zero a h w = refl
  many-set (suc n) a h w = or-both _ _ (h w.0) (many-set n a h w.1)

  module _ (path : List ℕ) where
    called : (x : p.Exp) (a : d.Stm) → Free stores (s.exp_sites x) → (e : State) → SetsNone (unrolled scope a e) → SetsNone (unrolled scope (plain.called_first path x a) e)
    called (p.Sys place name given) a c e h w = or-both _ _ (task-sets (task_of path name (plain.args given)) e.values (call-loads path name given c) w.0) (h w.1)
    called (p.Un o u.LogNot (p.Sys place name given)) a c e h w = or-both _ _ (task-sets (task_of path name (plain.args given)) e.values (call-loads path name given c) w.0) (h w.1)
    called x a c e h w = h w

    abbrev ItemsSetNone : d.Items → Type 0
    ItemsSetNone items = AreSoundItems next items → items_set is_memory items ≡ false

    item-sets : (es : p.Exps) (a : d.Stm) (others : d.Items) (e : State) → SetsNone (unrolled scope a e) → ItemsSetNone (unrolled_items scope others e) → ItemsSetNone (unrolled_items scope (plain.item es a others) e)
    item-sets p.NoExps a others e h k w = or-both _ _ (h w.0) (k w.1)
    item-sets (p.MoreExps x es) a others e h k w = or-both _ _ (h w.1) (k w.2)

    mutual
      pub body-sets : (a : p.Stm) → Free stores (s.sites a) → (e : State) → SetsNone (unrolled scope (plain.stm path a) e)
      body-sets (p.Nop place) c e w = refl
      body-sets (p.Seq place as') c e w = all-set as' c e w
      body-sets (p.If place t x y) c e w =
          let rest = free-right stores (s.exp_sites t) (s.sites x ++ s.sites y) c in
          called t (d.If (plain.exp t) (plain.stm path x) (plain.stm path y)) (free-left stores (s.exp_sites t) (s.sites x ++ s.sites y) c) e
          (λ v. or-both _ _ (body-sets x (free-left stores (s.sites x) (s.sites y) rest) e v.1) (body-sets y (free-right stores (s.sites x) (s.sites y) rest) e v.2)) w
      body-sets (p.Case place x is wild) c e w = items-set is (free-right stores (s.exp_sites x) (s.items_sites is) c) e w.1
      body-sets (p.For place k start test step a) c e w =
          let rest = free-right stores (s.head_sites k start (s.sites start)) (s.exp_sites test ++ (s.head_sites k step (s.sites step) ++ s.sites a)) c in
          let body = free-right stores (s.head_sites k step (s.sites step)) (s.sites a) (free-right stores (s.exp_sites test) (s.head_sites k step (s.sites step) ++ s.sites a) rest) in
          turns-set most_turns (goes_on scope (plain.exp test)) (exec scope (plain.stm path step)) (unrolled scope (plain.stm path a)) (λ v. body-sets a body v) (exec scope (plain.stm path start) e) w
      body-sets (p.Repeat place n a) c e w = many-set n (unrolled scope (plain.stm path a) e) (body-sets a c e) w
      body-sets (p.Set place t x) c e w =
          called x (d.Set (plain.target t) (plain.exp x)) (free-right stores (s.target_sites false t) (s.exp_sites x) c) e
          (λ v. target-sets t e.values (free-left stores (s.target_sites false t) (s.exp_sites x) c) v.0) w
      body-sets (p.Later place t x) c e w =
          called x (d.Later (plain.target t) (plain.exp x)) (free-right stores (s.target_sites true t) (s.exp_sites x) c) e (λ v. refl) w
      body-sets (p.Task place name given) c e w = task-sets (task_of path name (plain.args given)) e.values (call-loads path name given c) w

      all-set : (as' : p.Stms) → Free stores (s.all_sites as') → (e : State) → SetsNone (unrolled scope (plain.stms path as') e)
      all-set p.NoStms c e w = refl
      all-set (p.MoreStms a as') c e w =
          or-both _ _ (body-sets a (free-left stores (s.sites a) (s.all_sites as') c) e w.0) (all-set as' (free-right stores (s.sites a) (s.all_sites as') c) e w.1)

      items-set : (is : p.Items) → Free stores (s.items_sites is) → (e : State) → ItemsSetNone (unrolled_items scope (plain.items path is) e)
      items-set p.NoItems c e w = refl
      items-set (p.MoreItems es a others) c e w =
          let rest = free-right stores (s.exps_sites es) (s.sites a ++ s.items_sites others) c in
          item-sets es (plain.stm path a) (plain.items path others) e (body-sets a (free-left stores (s.sites a) (s.items_sites others) rest) e) (items-set others (free-right stores (s.sites a) (s.items_sites others) rest) e) w
