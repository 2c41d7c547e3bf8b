-- Items of cases one by one; the default is executed behind them.
use Rattle.std.proofs.Common.{◌≡◌, ◌≢◌, ℕ, false, List, [], ◌∷◌, ◌++◌, refl, sym, ap, ◌∙◌, subst, nat_lt, append_assoc}
use Rattle.vl_design.specs.declared.design.Expr.{Expr}
use Rattle.vl_design.specs.declared.design.Form.{Form}
use Rattle.vl_design.specs.Acts.{default_body}
use Rattle.vl_design.specs.Placed as p
use Rattle.vl_design.specs.Plainly as plain
use Rattle.vl_design.specs.Reads.{stm_writes, items_write}
use Rattle.vl_design.specs.Seen as seen
use Rattle.vl_design.specs.Sound.{AreSound, AreSoundItems, IsSoundStm}
use Rattle.vl_design.specs.Syntax.{Target, Stm, Items, NoItems, Labelled, Default}
use Rattle.vl_design.specs.Trees.{exps_of}
use Rattle.vl_design.specs.Width.{Names, Scope}
use Rattle.cell_emit.specs.cell_form.specs.Data.{ListData}
use Rattle.cell_emit.specs.Slots.{Nothing}
use Rattle.cell_emit.proofs.Frames.{longer-grows, grows-then}
use Rattle.cell_emit.specs.Envs.{Env, Fits, IsSlot, HasMemories}
use Rattle.cell_emit.proofs.Casing.{tries-default}
use Rattle.cell_emit.proofs.Staying.{is-slot-stays}
use Rattle.cell_emit.specs.Pendings.{PendingSlots, ArePending}
use Rattle.cell_emit.proofs.Leaving.{leaves-default, leaves-labelled}
use Rattle.cell_expr.specs.Bodies.{IsSegment, AreSegmentItems}
use Rattle.cell_expr.specs.Counts.{labels_count, items_count, stm_count}
use Rattle.cell_expr.specs.Items.{Item, Tried}
use Rattle.cell_emit.specs.vl_sites.specs.Stored.{stored_words, items_stored, default_stored}
use Rattle.cell_expr.proofs.Labelling.{item-tries}
use Rattle.cell_expr.proofs.Listing.{none-left, none-right}
pub use Rattle.vl_design.proofs.Shared.{item-sound}

pub tried-default : (scope : Scope) (body : ℕ → ℕ) (c : Form) (subject rest : ℕ) (es : List Expr) (a : Stm) (at : Env) (q : PendingSlots) (l : ListData) → es ≡ [] → Fits scope.names l at → IsSlot l rest 1 → ArePending scope.names l q →
    Tried scope.names scope body c subject (seen.exps_of es) a rest rest at at q q l l
tried-default scope body c subject rest es a at q l e fits slot pending =
    let F : List Expr → Type 0 = λ z. Tried scope.names scope body c subject (seen.exps_of z) a rest rest at at q q l l in
    subst F (sym e) (record {
      fits = fits;
      first = refl;
      slot = slot;
      pending = pending;
      many = refl;
      leads = λ others r at' far t. tries-default scope.names (items_count body others) scope c subject a others rest r at at' l far t;
      leaves = λ others r at' q' far t. leaves-default scope.names scope c subject a others rest r at at' q q' l far t;
    })

pub tried-item : (scope : Scope) (body : ℕ → ℕ) (c : Form) (subject before behind : ℕ) (es : List Expr) (a : Stm) (at at' : Env) (q q' : PendingSlots) (old new : ListData) → es ≢ [] → Fits scope.names old at → IsSlot old subject c.width → IsSlot old before 1 →
    ArePending scope.names old q → Item scope.names scope body c subject (exps_of es) a before behind at at' q q' old new → Tried scope.names scope body c subject (seen.exps_of es) a before behind at at' q q' old new
tried-item scope body c subject before behind [] a at at' q q' old new some fits ks slot pending item = absurd (some refl)
tried-item scope body c subject before behind (x ∷ xs) a at at' q q' old new some fits ks slot pending item = record {
  fits = item.does.fits;
  first = item.does.keeps.first;
  slot = is-slot-stays item.compared new behind 1 (grows-then item.compared item.ready new (longer-grows Nothing 1 item.compared item.ready item.path.longer) (longer-grows (HasMemories scope.names at) (stm_count body a) item.ready new item.does.longer)) item.labels.slot;
  pending = item.leaves.pending;
  many = item.leaves.many;
  leads = λ others r at2 far t. item-tries scope body c (items_count body others) subject before behind r (exps_of (x ∷ xs)) a others at at' at2 q q' old new far fits ks.there slot item t;
  leaves = λ others r at2 q2 far t.
      leaves-labelled scope.names scope c (labels_count body (exps_of (x ∷ xs))) (stm_count body a) subject before behind item.taken r (exps_of (x ∷ xs)) a others at at' at2 q q' q2 old item.compared item.ready new far
      fits pending ks.there slot item.labels item.path item.does item.leaves t;
}

-- ---- an item and the others

pub item-segment : (P : Target → Type 0) (es : p.Exps) (a : Stm) (others : Items) → AreSegmentItems P (plain.item es a others) → IsSegment P a × AreSegmentItems P others
item-segment P p.NoExps a others h = h
item-segment P (p.MoreExps e es) a others h = h

pub item-apart : (n : ℕ) (es : p.Exps) (a : Stm) (others : Items) → items_write (λ k. nat_lt k n) (plain.item es a others) ≡ false → (stm_writes (λ k. nat_lt k n) a ≡ false) × (items_write (λ k. nat_lt k n) others ≡ false)
item-apart n p.NoExps a others h = (none-left _ _ h, none-right _ _ h)
item-apart n (p.MoreExps e es) a others h = (none-left _ _ h, none-right _ _ h)

pub others-apart : (n m : ℕ) (others : Items) → m ≡ n → items_write (λ k. nat_lt k n) others ≡ false → items_write (λ k. nat_lt k m) others ≡ false
others-apart n m others e h = subst (λ z. items_write (λ k. nat_lt k z) others ≡ false) (sym e) h

-- ---- the memories whose words an item and the others write

pub stored-default : (es : List Expr) (a : Stm) (others : Items) (ms : List ℕ) → es ≡ [] → ms ++ items_stored others ≡ ms ++ items_stored (plain.item (seen.exps_of es) a others)
stored-default es a others ms e = ap (λ zs. ms ++ items_stored (plain.item (seen.exps_of zs) a others)) (sym e)

pub stored-item : (es : List Expr) (a : Stm) (others : Items) (ms ns : List ℕ) → es ≢ [] → ns ≡ ms ++ stored_words a → ns ++ items_stored others ≡ ms ++ items_stored (plain.item (seen.exps_of es) a others)
stored-item [] a others ms ns some e = absurd (some refl)
stored-item (x ∷ xs) a others ms ns some e = ap (λ z. z ++ items_stored others) e ∙ append_assoc ms (stored_words a) (items_stored others)

pub default-words : (items : Items) → stored_words (default_body items) ≡ default_stored items
default-words NoItems = refl
default-words (Labelled es a others) = default-words others
default-words (Default a others) = refl

-- ---- the default

pub default-sound : (names : Names) (items : Items) → AreSoundItems names items → IsSoundStm names (default_body items)
default-sound names NoItems h = tt
default-sound names (Labelled es a others) h = default-sound names others h.2
default-sound names (Default a others) h = h.0

pub default-segment : (P : Target → Type 0) (items : Items) → AreSegmentItems P items → IsSegment P (default_body items)
default-segment P NoItems h = tt
default-segment P (Labelled es a others) h = default-segment P others h.1
default-segment P (Default a others) h = h.0

pub default-apart : (n : ℕ) (items : Items) → items_write (λ k. nat_lt k n) items ≡ false → stm_writes (λ k. nat_lt k n) (default_body items) ≡ false
default-apart n NoItems h = refl
default-apart n (Labelled es a others) h = default-apart n others (none-right _ _ h)
default-apart n (Default a others) h = none-left _ _ h
