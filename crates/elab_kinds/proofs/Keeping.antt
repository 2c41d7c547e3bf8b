-- What is kept of counts is kept of sums and products of what is kept.
use Rattle.std.proofs.Common.{◌≡◌, refl, sym, ap, ◌∙◌, ℕ, zero, suc, ◌+◌, ◌*◌, ◌<◌, List, [], ◌∷◌, ◌++◌, length, map, take, get_or, arith}
use Rattle.std.proofs.lemmas.List.{map_push, take_more}
use Rattle.std.proofs.lemmas.List.Sums.{fold-append}
use Rattle.std.proofs.Math.Nat.{suc-mul}
use Rattle.elab_plain.specs.vl_flat.specs.Items as x
use Rattle.elab_plain.specs.vl_flat.specs.Kinds.{signals_of}
use Rattle.elab_plain.specs.vl_flat.specs.Environments.{Counts, no_more, plus, times, item_counts, module_counts, new_ones}
use Rattle.elab_plain.specs.declared.items.Item.{Item}
use Rattle.elab_plain.specs.SeenItems.{seen_item}
use Rattle.elab_kinds.specs.Sized.{kept, kept_number, most_numbers, items_counts, own_signals}

-- counts are what their numbers are
pub counts-same : (a b : Counts) → a.signals ≡ b.signals → a.functions ≡ b.functions → a ≡ b
counts-same a b p q = ap (λ z. record { signals = z; functions = a.functions }) p ∙ ap (λ z. record { signals = b.signals; functions = z }) q

pub kept-twice : (a : Counts) → kept (kept a) ≡ kept a
kept-twice a = counts-same (kept (kept a)) (kept a) (omega arith) (omega arith)

-- where none is the greatest, what is kept is the counts
pub kept-exactly : (a b : Counts) → a ≡ kept b → (a.signals ≡ most_numbers → ⊥) → (a.functions ≡ most_numbers → ⊥) → a ≡ b
kept-exactly a b h m n =
    let p : a.signals ≡ kept_number b.signals = ap (λ (z : Counts). z.signals) h in
    let q : a.functions ≡ kept_number b.functions = ap (λ (z : Counts). z.functions) h in
    counts-same a b (omega (arith, p, m)) (omega (arith, q, n))

pub kept-plus : (a b c d : Counts) → kept a ≡ kept c → kept b ≡ kept d → kept (plus a b) ≡ kept (plus c d)
kept-plus a b c d h k =
    let p : kept_number a.signals ≡ kept_number c.signals = ap (λ (z : Counts). z.signals) h in
    let q : kept_number b.signals ≡ kept_number d.signals = ap (λ (z : Counts). z.signals) k in
    let r : kept_number a.functions ≡ kept_number c.functions = ap (λ (z : Counts). z.functions) h in
    let s : kept_number b.functions ≡ kept_number d.functions = ap (λ (z : Counts). z.functions) k in
    counts-same (kept (plus a b)) (kept (plus c d)) (omega (arith, p, q)) (omega (arith, r, s))

number-times : (n a c : ℕ) → kept_number a ≡ kept_number c → kept_number (n * a) ≡ kept_number (n * c)
number-times zero a c h = omega arith
number-times (suc n) a c h =
    let rest = number-times n a c h in
    omega (arith, rest, h, suc-mul n a, suc-mul n c)

pub kept-times : (n : ℕ) (a c : Counts) → kept a ≡ kept c → kept (times n a) ≡ kept (times n c)
kept-times n a c h =
    counts-same (kept (times n a)) (kept (times n c)) (number-times n a.signals c.signals (ap (λ (z : Counts). z.signals) h)) (number-times n a.functions c.functions (ap (λ (z : Counts). z.functions) h))

-- ---- items, where of modules the same is kept

module _ (s z : List ℕ → Counts) (same : (t : List ℕ) → kept (s t) ≡ kept (z t)) where
  pub item-kept : (item : x.Item) → kept (item_counts s item) ≡ kept (item_counts z item)
  item-kept (x.Parameters type ps) = refl
  item-kept (x.Signals ds) = refl
  item-kept (x.Functions a) = refl
  item-kept (x.Assigns as') = refl
  item-kept (x.Initial at a) = refl
  item-kept (x.Always at trigger a) = refl
  item-kept (x.Instantiates us) = kept-times (length us.units) (s us.definition) (z us.definition) (same us.definition)

  pub items-kept : (items : List x.Item) (c d : Counts) → kept c ≡ kept d → kept (items_counts s c items) ≡ kept (items_counts z d items)
  items-kept [] c d h = h
  items-kept (item ∷ items) c d h =
      items-kept items (plus c (item_counts s item)) (plus d (item_counts z item)) (kept-plus c (item_counts s item) d (item_counts z item) h (item-kept item))

  pub module-kept : (m : x.Module) → kept (module_counts s m) ≡ kept (module_counts z m)
  module-kept m = let first : Counts = record { signals = length (new_ones [] (signals_of m)); functions = 0 } in items-kept m.items first first refl

-- the signals of its own may be kept first
pub own-kept : (sizes : List ℕ → Counts) (m : x.Module) → kept (items_counts sizes (record { signals = own_signals m; functions = 0 }) m.items) ≡ kept (module_counts sizes m)
own-kept sizes m =
    let first : Counts = record { signals = length (new_ones [] (signals_of m)); functions = 0 } in
    items-kept sizes sizes (λ t. refl) m.items (record { signals = own_signals m; functions = 0 }) first (counts-same _ _ (omega arith) refl)

-- one more item
pub items-more : (sizes : List ℕ → Counts) (c : Counts) (items : List Item) (i : ℕ) (y : Item) → i < length items → y ≡ get_or items i y
    → items_counts sizes c (map seen_item (take (i + 1) items)) ≡ plus (items_counts sizes c (map seen_item (take i items))) (item_counts sizes (seen_item y))
items-more sizes c items i y l e =
    ap (λ z. items_counts sizes c (map seen_item z)) (take_more items i y l ∙ ap (λ z. take i items ++ z ∷ []) (sym e))
    ∙ (ap (items_counts sizes c) (map_push seen_item (take i items) y)
    ∙ fold-append (λ (z : Counts) item. plus z (item_counts sizes item)) c (map seen_item (take i items)) (seen_item y ∷ []))

-- what was added to what is kept
pub kept-more : (all now more c : Counts) → all ≡ kept (plus now more) → now ≡ kept c → (d : Counts) → more ≡ kept d → all ≡ kept (plus c d)
kept-more all now more c h k d l =
    h ∙ kept-plus now more c d (ap kept k ∙ kept-twice c) (ap kept l ∙ kept-twice d)

-- no more makes no difference
pub plus-none : (c : Counts) → plus c no_more ≡ c
plus-none c = counts-same (plus c no_more) c (omega arith) (omega arith)
