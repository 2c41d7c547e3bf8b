-- Cells of a design's processes, one after the other.
use Rattle.std.proofs.Common.{◌≡◌, ℕ, ◌+◌, ◌<◌, Bool, true, false, List, [], length, map, refl, sym, ap, ◌∙◌, arith, subst}
use Rattle.std.specs.Prelude.{get_or, slice_index_or}
use Rattle.std.proofs.lemmas.List.{get_or-map}
use Rattle.vl_design.specs.declared.design.Design.{Design}
use Rattle.vl_design.specs.declared.design.Process.{Process}
use Rattle.vl_design.specs.declared.design.ProcKind.TheVariants.{Init, Comb}
use Rattle.vl_design.specs.Syntax.{Proc, Nop, Target, Whole, WordAt, PickAt, SliceAt, Several, Targets, NoTargets, MoreTargets, Stm, Then, If, Case, For, Repeat, Set, Later, Sys, Items, NoItems, Labelled, Default}
use Rattle.vl_design.specs.Width.{Names, names_of}
use Rattle.vl_design.specs.Queue.{proc_at, is_comb}
use Rattle.vl_design.specs.Sound.{IsSound}
use Rattle.vl_design.specs.Trees.{flat_of, proc_of}
use Rattle.vl_design.specs.State.{State}
use Rattle.vl_design.proofs.TreeLemmas.{procs-map}
use Rattle.cell_expr.specs.vl_paths.specs.Nets.{IsBase, IsPlain, ArePlain, IsNetStm, AreNetItems}
use Rattle.vl_accept.specs.vl_bits.proofs.Sounds.{process-there}
use Rattle.vl_accept.specs.vl_runs.specs.Checked.{IsChecked}
use Rattle.vl_accept.specs.vl_runs.specs.NetsOfSettle.{is_memory}
use Rattle.cell_emit.specs.cell_form.specs.Data.{ListData}
use Rattle.cell_emit.specs.cell_form.specs.Views.{list_of}
use Rattle.cell_emit.specs.cell_form.specs.declared.cell.Cell.{Cell}
use Rattle.cell_emit.specs.cell_form.specs.declared.cell.Write.{Write}
use Rattle.cell_emit.specs.cell_form.specs.Sound.{Shape}
use Rattle.cell_emit.specs.Slots.{Longer}
use Rattle.cell_emit.proofs.Frames.{longer-then, longer-weaken}
use Rattle.cell_emit.specs.Envs.{Env, HasMemories, Fits}
use Rattle.cell_emit.specs.Paths.{Does}
use Rattle.cell_emit.proofs.Staying.{memories-kept}
use Rattle.cell_emit.specs.Reads.{HasPlaces}
use Rattle.cell_expr.specs.Bodies.{IsCellStm}
use Rattle.machine_rows.specs.Walked.{none, Walked, Adds}

-- ---- statements of nets are such whatever is a memory, since none stands in them

module _ (p : ℕ → Bool) where
  base-any : (t : Target) → IsBase p t → IsBase (λ k. false) t
  base-any (Whole k) h = refl
  base-any (WordAt m a) h = absurd h
  base-any (PickAt b i from w) h = absurd h
  base-any (SliceAt b low w) h = absurd h
  base-any (Several ts) h = absurd h

  mutual
    plain-any : (t : Target) → IsPlain p t → IsPlain (λ k. false) t
    plain-any (Whole k) h = refl
    plain-any (WordAt m a) h = absurd h
    plain-any (PickAt b i from w) h = base-any b h
    plain-any (SliceAt b low w) h = base-any b h
    plain-any (Several ts) h = all-plain-any ts h

    all-plain-any : (ts : Targets) → ArePlain p ts → ArePlain (λ k. false) ts
    all-plain-any NoTargets h = tt
    all-plain-any (MoreTargets t ts) h = (plain-any t h.0, all-plain-any ts h.1)

  mutual
    net-any : (a : Stm) → IsNetStm p a → IsNetStm (λ k. false) a
    net-any Nop h = tt
    net-any (Then a b) h = (net-any a h.0, net-any b h.1)
    net-any (If t a b) h = (net-any a h.0, net-any b h.1)
    net-any (Case e is) h = items-any is h
    net-any (For k start test step a) h = absurd h
    net-any (Repeat n a) h = absurd h
    net-any (Set t e) h = plain-any t h
    net-any (Later t e) h = absurd h
    net-any (Sys task) h = absurd h

    items-any : (is : Items) → AreNetItems p is → AreNetItems (λ k. false) is
    items-any NoItems h = tt
    items-any (Labelled es a others) h = (net-any a h.0, items-any others h.1)
    items-any (Default a others) h = (net-any a h.0, items-any others h.1)

nothing : Proc
nothing = record { kind = Init; events = []; body = Nop }

-- the process of a number, of the code's list
at-number : (xs : List Process) (i : ℕ) (x : Process) → i < length xs → x ≡ get_or xs i x → slice_index_or (map proc_of xs) i nothing ≡ proc_of x
at-number xs i x lt e = get_or-map proc_of xs i x nothing lt ∙ ap proc_of (sym e)

-- the body of a combinational block of a design that is accepted
pub block-body : (d : Design) (xs : List Process) (i : ℕ) (x : Process) → xs ≡ d.processes → i < length xs → x ≡ get_or xs i x → IsSound (flat_of d) → IsChecked (flat_of d) → x.kind ≡ Comb → IsCellStm (names_of (flat_of d)) x.body
unfolding nothing
block-body d xs i x same lt e sound checked comb =
    let F : List Process → Type 0 = λ ys. i < length ys in
    let G : List Process → Type 0 = λ ys. x ≡ get_or ys i x in
    let here : proc_at (flat_of d) i ≡ proc_of x =
    ap (λ ps. slice_index_or ps i nothing) (procs-map d.processes) ∙ at-number d.processes i x (subst F same lt) (subst G same e) in
    let combined : is_comb (proc_at (flat_of d) i).kind ≡ true = ap (λ (p : Proc). is_comb p.kind) here ∙ ap is_comb comb in
    let H : Proc → Type 0 = λ p. IsNetStm (is_memory (flat_of d).rows) p.body in
    let net : IsNetStm (is_memory (flat_of d).rows) (proc_of x).body = subst H here (checked.nets i combined) in
    record {
      path = x.path;
      sound = (process-there d (names_of (flat_of d)) xs i x refl same lt e sound).body;
      net = net-any (is_memory (flat_of d).rows) (proc_of x).body net;
    }

-- ---- cells more

pub adds-done : (names : Names) (n : ℕ) (f : State → State) (off : ℕ) (at at' : Env) (old new : ListData) → Does names n f off at at' old new → Adds names at at' old new
adds-done names n f off at at' old new d = record { count = n; longer = d.longer; fits = d.fits; keeps = d.keeps }

pub walked-more : (names : Names) (places : List ℕ) (time answer : ℕ) (at at' : Env) (old new : ListData) → Walked names places time answer old at → Adds names at at' old new → Walked names places time answer new at'
walked-more names places time answer at at' old new w a =
    let H : Shape → Type 0 = HasPlaces names places time answer in
    let more = longer-weaken (HasMemories names at) H a.count a.count old new w.memories (omega arith) a.longer in
    record {
      count = w.count + a.count;
      longer = longer-then H w.count a.count none old new w.longer more;
      fits = a.fits;
      first = a.keeps.first ∙ w.first;
      memories = λ s h. memories-kept names at at' s a.keeps (w.memories s h);
    }

-- no cells yet
pub none-yet : (cells : List Cell) (sets : List Write) → cells ≡ [] → sets ≡ [] → list_of (record { first = 0; cells = cells; sets = sets }) ≡ none
none-yet cells sets e f = ap (λ (xs : List Cell). list_of (record { first = 0; cells = xs; sets = sets })) e ∙ ap (λ (ws : List Write). list_of (record { first = 0; cells = []; sets = ws })) f

pub walked-first : (names : Names) (places : List ℕ) (time answer n : ℕ) (at : Env) (old l : ListData) → old ≡ none → at.first ≡ 0 → Longer (HasPlaces names places time answer) n old l → Fits names l at →
    ((s : Shape) → HasPlaces names places time answer s → HasMemories names at s) → Walked names places time answer l at
walked-first names places time answer n at old l e first longer fits memories =
    let F : ListData → Type 0 = λ o. Longer (HasPlaces names places time answer) n o l in
    record { count = n; longer = subst F e longer; fits = fits; first = first; memories = memories }
