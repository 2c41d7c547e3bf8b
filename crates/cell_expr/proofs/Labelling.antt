-- Labels and items of cases (IEEE 1364-2005, clause 9.5).
use Rattle.std.proofs.Common.{◌≡◌, ℕ, ◌+◌, refl, sym, ap, ◌∙◌, arith, subst}
use Rattle.std.specs.Prelude.{◌==◌, if◌then◌else◌, Option}
use Rattle.vl_design.specs.declared.design.Form.{Form}
use Rattle.vl_design.specs.Acts.{default_body}
use Rattle.vl_design.specs.Exec.{exec, exec_default, label_matches, items_form}
use Rattle.vl_design.specs.Syntax.{Exp, Num, Label, Sig, Word, Pick, Slice, Un, Bin, Cond, Cat, Rep, Cast, Call, Time, LastAnswer, Exps, MoreExps, Stm, Case, Items, NoItems, Labelled, Default}
use Rattle.vl_design.specs.State.{State, sample}
use Rattle.vl_design.specs.Value.{Sample, value}
use Rattle.vl_design.specs.Width.{Scope, form}
use Rattle.cell_emit.specs.cell_form.specs.Data.{ListData}
use Rattle.cell_emit.specs.cell_form.specs.Sound.{Shape}
use Rattle.cell_emit.specs.Slots.{held, IsIn, Longer, Gives, Nothing}
use Rattle.cell_emit.proofs.Frames.{held-stays, longer-grows, longer-then, longer-weaken}
use Rattle.cell_emit.specs.Envs.{Env, IsSlot, Fits, HasMemories, Stands}
use Rattle.cell_emit.specs.Paths.{on, Does}
use Rattle.cell_emit.specs.Cases.{Compares, Tries}
use Rattle.cell_emit.specs.Differs.{differing, differing_count}
use Rattle.cell_emit.proofs.Staying.{sound-behind, longer-plain}
use Rattle.cell_emit.proofs.Casing.{xor-equal, compares-more, tries-labelled, does-case}
use Rattle.cell_emit.specs.Pendings.{PendingSlots, ArePending, Pends}
use Rattle.cell_emit.specs.Delays.{Leaves, LeavesItems}
use Rattle.cell_emit.proofs.Leaving.{leaves-case}
use Rattle.cell_expr.specs.Compiled.{Compiles}
use Rattle.cell_expr.specs.Counts.{labels_count, stm_count, items_count, default_count, in_count, subject_count, label_count}
use Rattle.cell_expr.specs.Items.{Item}
use Rattle.cell_expr.specs.Labels.{care_in}
use Rattle.cell_expr.proofs.Counting.{subject-few, label-cells}

-- a label matches where no bit that it compares differs
label-differs : (scope : Scope) (x : Sample) (c : Form) (v : ℕ) (e : Exp) → (differing (care_in c e) v (value scope x e c) == 0) ≡ label_matches scope x c v e
label-differs scope x c v (Label l care w signed) = refl
label-differs scope x c v (Num l w signed) = xor-equal v (value scope x (Num l w signed) c)
label-differs scope x c v (Sig k) = xor-equal v (value scope x (Sig k) c)
label-differs scope x c v (Word m a) = xor-equal v (value scope x (Word m a) c)
label-differs scope x c v (Pick b i from w) = xor-equal v (value scope x (Pick b i from w) c)
label-differs scope x c v (Slice b low w) = xor-equal v (value scope x (Slice b low w) c)
label-differs scope x c v (Un op a) = xor-equal v (value scope x (Un op a) c)
label-differs scope x c v (Bin op a b) = xor-equal v (value scope x (Bin op a b) c)
label-differs scope x c v (Cond t a b) = xor-equal v (value scope x (Cond t a b) c)
label-differs scope x c v (Cat es) = xor-equal v (value scope x (Cat es) c)
label-differs scope x c v (Rep n es) = xor-equal v (value scope x (Rep n es) c)
label-differs scope x c v (Cast signed a) = xor-equal v (value scope x (Cast signed a) c)
label-differs scope x c v (Call f es) = xor-equal v (value scope x (Call f es) c)
label-differs scope x c v Time = xor-equal v (value scope x Time c)
label-differs scope x c v LastAnswer = xor-equal v (value scope x LastAnswer c)

-- one label more
pub label-compares : (scope : Scope) (c : Form) (n m subject slot apart before left behind w : ℕ) (care : Option ℕ) (e : Exp) (es : Exps) (at : Env) (l0 l1 l2 l3 l4 : ListData) → Fits scope.names l0 at → IsIn l0 subject → IsIn l0 before →
    care ≡ care_in c e → Compiles scope.names scope n e c at l0 l1 slot →
    Gives Nothing (differing_count care) l1 l2 apart w (λ b. differing care (held b l1 subject) (held b l1 slot)) →
    Gives Nothing 1 l2 l3 left 1 (λ b. if held b l2 apart == 0 then 1 else held b l2 before) → Compares scope.names m scope c subject es left behind at l3 l4 →
    Compares scope.names (n + label_count e + 1 + m) scope c subject (MoreExps e es) before behind at l0 l4
label-compares scope c n m subject slot apart before left behind w care e es at l0 l1 l2 l3 l4 fits ks kb cares value-is differs opens more =
    let names = scope.names in
    let H : Shape → Type 0 = HasMemories names at in
    let k : differing_count care ≡ label_count e = ap differing_count cares ∙ label-cells c e in
    let l02 = longer-then H n (label_count e) l0 l1 l2 value-is.longer (longer-plain names at (differing_count care) (label_count e) l1 l2 (omega (arith, k)) differs.longer) in
    compares-more names scope c (n + label_count e) m subject apart before left behind e es at l0 l2 l3 l4 fits ks kb l02 differs.there
    (λ s b x sound st. (
    let behind' = sound-behind names at n s l0 l1 value-is.longer sound in
    let v = held b l0 subject in
    ap (λ z. z == 0) (differs.value behind'.shape b behind'.sound
    ∙ ap (λ z. differing care z (held b l1 slot)) (held-stays b l0 l1 subject (longer-grows H n l0 l1 value-is.longer) ks)
    ∙ ap (differing care v) (value-is.value s b x sound st)
    ∙ ap (λ (o : Option ℕ). differing o v (value scope x e c)) cares)
    ∙ label-differs scope x c v e))
    opens more

-- what the default does
pub default-does : (scope : Scope) (items : Items) (t : State) → exec_default scope items t ≡ exec scope (default_body items) t
default-does scope NoItems t = refl
default-does scope (Labelled es a others) t = default-does scope others t
default-does scope (Default a others) t = refl

pub default-counts : (body : ℕ → ℕ) (items : Items) → default_count body items ≡ stm_count body (default_body items)
default-counts body NoItems = refl
default-counts body (Labelled es a others) = default-counts body others
default-counts body (Default a others) = refl

pub item-tries : (scope : Scope) (body : ℕ → ℕ) (c : Form) (m subject before behind behind' : ℕ) (es : Exps) (a : Stm) (others : Items) (at0 at1 at2 : Env) (p0 p1 : PendingSlots) (l0 l1 l2 : ListData) → Fits scope.names l0 at0 → IsIn l0 subject → IsSlot l0 before 1 →
    Item scope.names scope body c subject es a before behind at0 at1 p0 p1 l0 l1 → Tries scope.names m scope c subject others behind behind' at1 at2 l1 l2 →
    Tries scope.names (labels_count body es + 1 + (stm_count body a + m)) scope c subject (Labelled es a others) before behind' at0 at2 l0 l2
item-tries scope body c m subject before behind behind' es a others at0 at1 at2 p0 p1 l0 l1 l2 fits ks slot item more =
    tries-labelled scope.names scope c (labels_count body es) (stm_count body a) m subject before behind item.taken behind' es a others at0 at1 at2 l0 item.compared item.ready l1 l2 fits ks slot item.labels item.path item.does more

-- the whole case
pub case-does : (scope : Scope) (body : ℕ → ℕ) (e : Exp) (items : Items) (c : Form) (off subject behind : ℕ) (at0 at1 at2 : Env) (l0 l1 l2 l3 : ListData) → c ≡ items_form scope.names (form scope.names e) items → Fits scope.names l0 at0 → IsIn l0 off →
    Compiles scope.names scope (in_count scope.names body c.width e) e c at0 l0 l1 subject → Tries scope.names (items_count body items) scope c subject items off behind at0 at1 l1 l2 →
    Does scope.names (stm_count body (default_body items)) (exec scope (default_body items)) behind at1 at2 l2 l3 →
    Does scope.names (stm_count body (Case e items)) (exec scope (Case e items)) off at0 at2 l0 l3
case-does scope body e items c off subject behind at0 at1 at2 l0 l1 l2 l3 same fits inside value-is tries d =
    let names = scope.names in
    let d' : Does names (default_count body items) (exec_default scope items) behind at1 at2 l2 l3 = record {
      longer = subst (λ n. Longer (HasMemories names at1) n l2 l3) (sym (default-counts body items)) d.longer;
      fits = d.fits;
      keeps = d.keeps;
      alive = λ t h. ap (λ (z : State). z.finished) (default-does scope items t) ∙ d.alive t h;
      does = λ s b t sound alive st. subst (λ z. Stands names b l3 at2 (sample (on (held b l2 behind) z t))) (sym (default-does scope items t)) (d.does s b t sound alive st);
    } in
    let H : Shape → Type 0 = HasMemories names at0 in
    let first = longer-weaken H H (in_count names body c.width e) (subject_count body e items) l0 l1 (λ s k. k) (subject-few names body e items c same) value-is.longer in
    does-case scope e items (subject_count body e items) (items_count body items) (default_count body items) off subject behind at0 at1 at2 l0 l1 l2 l3 fits inside first
    (λ s b x sound st. value-is.value s b x sound st ∙ ap (value scope x e) same)
    (subst (λ (f : Form). Tries names (items_count body items) scope f subject items off behind at0 at1 l1 l2) same tries) d'

pub case-leaves : (scope : Scope) (body : ℕ → ℕ) (e : Exp) (items : Items) (c : Form) (off subject behind : ℕ) (at0 at1 : Env) (p0 p1 p2 : PendingSlots) (l0 l1 l2 l3 : ListData) → c ≡ items_form scope.names (form scope.names e) items →
    Fits scope.names l0 at0 → ArePending scope.names l0 p0 → IsIn l0 off → Compiles scope.names scope (in_count scope.names body c.width e) e c at0 l0 l1 subject → Tries scope.names (items_count body items) scope c subject items off behind at0 at1 l1 l2 →
    LeavesItems scope.names scope c subject items off behind at0 at1 p0 p1 l1 l2 → Leaves scope.names (exec scope (default_body items)) behind at1 p1 p2 l2 l3 →
    Leaves scope.names (exec scope (Case e items)) off at0 p0 p2 l0 l3
case-leaves scope body e items c off subject behind at0 at1 p0 p1 p2 l0 l1 l2 l3 same fits pending inside value-is tries leaves d =
    let names = scope.names in
    let d' : Leaves names (exec_default scope items) behind at1 p1 p2 l2 l3 = record {
      pending = d.pending;
      many = d.many;
      later = λ s b t sound alive st before. subst (λ z. Pends names b l3 p2 (on (held b l2 behind) z t).later) (sym (default-does scope items t)) (d.later s b t sound alive st before);
    } in
    leaves-case scope e items (in_count names body c.width e) (items_count body items) off subject behind at0 at1 p0 p1 p2 l0 l1 l2 l3 fits pending inside value-is.longer
    (λ s b x sound st. value-is.value s b x sound st ∙ ap (value scope x e) same)
    tries.longer (subst (λ (f : Form). LeavesItems names scope f subject items off behind at0 at1 p0 p1 l1 l2) same leaves) d'
