-- Cases, item by item: k is known, n not known, r read, o that nothing may have matched.
use Rattle.std.proofs.Common.{◌≡◌, ◌<◌, ◌+◌, ℕ, Bool, true, false, List, [], ◌∷◌, length, drop, get_or, refl, sym, ap, ◌∙◌, subst, arith}
use Rattle.std.specs.Prelude.{◌||◌, ◌&&◌, not, ◌==◌}
use Rattle.std.proofs.lemmas.Grind.{common_steps}
use Rattle.std.proofs.lemmas.List.{at_drop_more}
use Rattle.std.specs.declared.alloc.Global.{Global}
use Rattle.std.specs.declared.vec.Vec.{Vec}
use Rattle.vl_design.specs.declared.design.CaseItem.{CaseItem}
use Rattle.vl_design.specs.declared.design.Expr.{Expr}
use Rattle.vl_design.specs.declared.design.Stmt.{Stmt}
use Rattle.vl_design.specs.declared.design.StmtNode as s
use Rattle.vl_design.specs.declared.design.StmtNode.TheBlock as sb
use Rattle.vl_design.specs.Placed as p
use Rattle.vl_design.specs.Plainly as plain
use Rattle.vl_design.specs.Seen as seen
use Rattle.vl_design.specs.Sound.{AreSound, IsSoundStm, AreSoundItems}
use Rattle.vl_design.specs.Syntax.{Exp, Exps, Stm, Case, Items, NoItems, Labelled, Default}
use Rattle.vl_design.specs.Trees.{exp_of, exps_of, stm_of}
use Rattle.vl_design.specs.Width.{Names}
use Rattle.vl_paths.specs.Bits.{Bit, bit_read, some_bit_read}
use Rattle.vl_paths.specs.Paths.{always, always_in, early, early_in, label_reads}
use Rattle.vl_paths.specs.Touched.{touched, touched_in}
use Rattle.vl_bits.specs.declared.parts.Part.{Part}
use Rattle.vl_bits.specs.Masks.{in_masks, in_parts, AreOf, Looks}
use Rattle.vl_bits.proofs.Lists.{or_assoc, or_none}
use Rattle.vl_bits.proofs.Looking.{looked, looked_none}
use Rattle.vl_bits.specs.declared.sets.Sets.{Sets}
use Rattle.vl_bits.specs.Cases.{items_of, stays_open}
use Rattle.vl_bits.specs.Walks.{Walks, Branches, WalksItem, WalksItems}
use Rattle.vl_bits.proofs.Steps.{was_unknown}
use Rattle.vl_base.proofs.Booleans.{and_left as and_true, and_true_right as and_last, and_false_back as and_none, and_assoc}
pub use Rattle.vl_design.proofs.Shared.{item-sound}

-- ---- items of the program

-- the rest of a list begins with the next one
pub items-more : (path : List ℕ) (xs : List CaseItem) (i : ℕ) (x : CaseItem) → i < length xs → x ≡ get_or xs i x
    → items_of path (drop i xs) ≡ plain.item (seen.exps_of x.labels.items) (stm_of path x.body) (items_of path (drop (i + 1) xs))
items-more path xs i x h e = at_drop_more (items_of path) xs i x h ∙ ap (λ y. plain.item (seen.exps_of y.labels.items) (stm_of path y.body) (items_of path (drop (i + 1) xs))) (sym e)

row-items : (path : List ℕ) {m : _} (k : s.Row_of-CaseItem m) → plain.items path (seen.row_items k) ≡ items_of path (s.items-the_row-CaseItem m k)
row-items path s.end_of-CaseItem = refl
row-items path (s.more_of-CaseItem labels q v rest) = ap (plain.item (seen.exps_of labels.items) (plain.stm path (seen.node_stm q v))) (row-items path rest)

-- a case has the tree of its items
pub case-of : (path : List ℕ) (x : Stmt) (e : Expr) (v : Vec CaseItem Global) (wild : Bool) (xs : List CaseItem) → x.node ≡ s.Case e v wild → xs ≡ v.items → stm_of path x ≡ Case (exp_of e) (items_of path xs)
case-of path x e v wild xs h g =
    ap (λ n. plain.stm path (seen.node_stm x.place n)) h
    ∙ ap (Case (exp_of e)) (row-items path (sb.hidden-the_row-CaseItem-1 v) ∙ ap (items_of path) (s.items_hidden-the_row-CaseItem-1 v))
    ∙ ap (λ ys. Case (exp_of e) (items_of path ys)) (sym g)

-- ---- the default

pub shut : (xs : List Expr) → false ≡ stays_open false (seen.exps_of xs)
shut [] = refl
shut (x ∷ xs) = refl

pub left_open : (o : Bool) (xs : List Expr) → stays_open o (seen.exps_of xs) ≡ (o && not (length xs == 0))
left_open true [] = refl
left_open false [] = refl
left_open true (x ∷ xs) = grind arith
left_open false (x ∷ xs) = refl

-- by what `is_empty` says
pub stays-is : (o r : Bool) (xs : List Expr) → o ≡ true → r ≡ (length xs == 0) → not r ≡ stays_open o (seen.exps_of xs)
stays-is o r xs h e = rw (e, h) (sym (left_open true xs))

pub ruleset opens = (common_steps, shut)

-- ---- one item after another

next_sure : (x k a r : Bool) → (x ≡ true → k ≡ false) → ((x && (not k && a)) && r) ≡ (x && (a && r))
next_sure true true a r h = let e = h refl in let z : ⊥ = cc in absurd z
next_sure true false a r h = refl
next_sure false k a r h = refl

-- m and f are read by this item's labels and body, l and e by those behind
next_read : (r n m f l e : Bool) → ((r || (n && (m || f))) || (n && (l || e))) ≡ (r || (n && ((m || l) || (f || e))))
next_read true n m f l e = refl
next_read false false m f l e = refl
next_read false true true f l e = refl
next_read false true false true true e = refl
next_read false true false true false e = refl
next_read false true false false l e = refl

none_known : (k a : Bool) → (not k && a) ≡ false → k ≡ (k || a)
none_known true a h = refl
none_known false a h = sym h

twice : (k a : Bool) → (not k && (not k && a)) ≡ (not k && a)
twice true a = refl
twice false a = refl

known_too : (k a : Bool) → (k || (not k && a)) ≡ (k || a)
known_too true a = refl
known_too false a = refl

module _ (names : Names) where
  item_sure : (o : Bool) (es : p.Exps) (a : Stm) (others : Items) (b : Bit) → always_in names b o (plain.item es a others) ≡ (always names b a && always_in names b (stays_open o es) others)
  item_sure o p.NoExps a others b = refl
  item_sure o (p.MoreExps e es) a others b = refl

  item_read : (es : p.Exps) (a : Stm) (others : Items) (b : Bit) → (label_reads names b (plain.item es a others) || early_in names b (plain.item es a others))
      ≡ ((some_bit_read names b (plain.exps es) || label_reads names b others) || (early names b a || early_in names b others))
  item_read p.NoExps a others b = refl
  item_read (p.MoreExps e es) a others b = refl

  item_touched : (es : p.Exps) (a : Stm) (others : Items) (b : Bit) → touched_in names b (plain.item es a others) ≡ (touched names b a || touched_in names b others)
  item_touched p.NoExps a others b = refl
  item_touched (p.MoreExps e es) a others b = refl

  -- before the rest of the items: `all` has what each one passed assigns always and what wasn't known
  pub record Casing (items rest : Items) (s t : Sets) (o : Bool) (all : List Part) : Type 0 where
    pub long : length t.known.items ≡ length s.known.items
    pub known : (b : Bit) → in_masks t.known.items b ≡ in_masks s.known.items b
    pub within : AreOf (length s.known.items) all
    pub unknown : (b : Bit) → in_parts all b ≡ true → in_masks s.known.items b ≡ false
    pub sure : (b : Bit) → (in_parts all b && always_in names b o rest) ≡ (not (in_masks s.known.items b) && always_in names b true items)
    pub read : (b : Bit) → (in_parts t.read.items b || (not (in_masks s.known.items b) && (label_reads names b rest || early_in names b rest)))
        ≡ (in_parts s.read.items b || (not (in_masks s.known.items b) && (label_reads names b items || early_in names b items)))
    pub driven : (b : Bit) → (in_parts t.driven.items b || touched_in names b rest) ≡ (in_parts s.driven.items b || touched_in names b items)
    pub read_within : AreOf (length s.known.items) s.read.items → AreOf (length s.known.items) t.read.items
    pub driven_within : AreOf (length s.known.items) s.driven.items → AreOf (length s.known.items) t.driven.items

  -- behind the first
  pub first_item : (es : p.Exps) (a : Stm) (others : Items) (s t : Sets) (more : List Part) → WalksItem names (plain.exps es) a s t more → Casing (plain.item es a others) others s t (stays_open true es) more
  first_item es a others s t more w = record {
    long = w.collects.long;
    known = w.known;
    within = w.collects.within;
    unknown = λ b h. was_unknown (in_masks s.known.items b) (always names b a) (in_parts more b) (w.collects.gained b) h;
    sure = λ b. ap (λ x. x && always_in names b (stays_open true es) others) (w.collects.gained b)
        ∙ and_assoc (not (in_masks s.known.items b)) (always names b a) (always_in names b (stays_open true es) others)
        ∙ ap (λ x. not (in_masks s.known.items b) && x) (sym (item_sure true es a others b));
    read = λ b. ap (λ x. x || (not (in_masks s.known.items b) && (label_reads names b others || early_in names b others))) (w.collects.read b)
        ∙ next_read (in_parts s.read.items b) (not (in_masks s.known.items b)) (some_bit_read names b (plain.exps es)) (early names b a) (label_reads names b others) (early_in names b others)
        ∙ ap (λ x. in_parts s.read.items b || (not (in_masks s.known.items b) && x)) (sym (item_read es a others b));
    driven = λ b. ap (λ x. x || touched_in names b others) (w.collects.driven b)
        ∙ or_assoc (in_parts s.driven.items b) (touched names b a) (touched_in names b others)
        ∙ ap (λ x. in_parts s.driven.items b || x) (sym (item_touched es a others b));
    read_within = w.collects.read_within;
    driven_within = w.collects.driven_within;
  }

  -- behind the next
  pub next_item : (items : Items) (es : p.Exps) (a : Stm) (others : Items) (s t u v : Sets) (o : Bool) (all more both : List Part) → Casing items (plain.item es a others) s t o all → WalksItem names (plain.exps es) a t u more
      → length v.known.items ≡ length u.known.items → ((b : Bit) → in_masks v.known.items b ≡ in_masks u.known.items b) → v.read.items ≡ u.read.items → v.driven.items ≡ u.driven.items
      → AreOf (length u.known.items) both → ((b : Bit) → in_parts both b ≡ (in_parts all b && in_parts more b)) → Casing items others s v (stays_open o es) both
  next_item items es a others s t u v o all more both c w long known read driven within shared = record {
    long = long ∙ w.collects.long ∙ c.long;
    known = λ b. known b ∙ w.known b ∙ c.known b;
    within = let l : length u.known.items ≡ length s.known.items = w.collects.long ∙ c.long in rw (← l) within;
    unknown = λ b h. c.unknown b (and_true (in_parts all b) (in_parts more b) (sym (shared b) ∙ h));
    sure = λ b. ap (λ x. x && always_in names b (stays_open o es) others) (shared b ∙ ap (λ x. in_parts all b && x) (w.collects.gained b ∙ ap (λ x. not x && always names b a) (c.known b)))
        ∙ next_sure (in_parts all b) (in_masks s.known.items b) (always names b a) (always_in names b (stays_open o es) others) (c.unknown b)
        ∙ ap (λ x. in_parts all b && x) (sym (item_sure o es a others b))
        ∙ c.sure b;
    read = λ b. ap (λ x. x || (not (in_masks s.known.items b) && (label_reads names b others || early_in names b others)))
        (ap (λ xs. in_parts xs b) read ∙ w.collects.read b ∙ ap (λ x. in_parts t.read.items b || (not x && (some_bit_read names b (plain.exps es) || early names b a))) (c.known b))
        ∙ next_read (in_parts t.read.items b) (not (in_masks s.known.items b)) (some_bit_read names b (plain.exps es)) (early names b a) (label_reads names b others) (early_in names b others)
        ∙ ap (λ x. in_parts t.read.items b || (not (in_masks s.known.items b) && x)) (sym (item_read es a others b))
        ∙ c.read b;
    driven = λ b. ap (λ x. x || touched_in names b others) (ap (λ xs. in_parts xs b) driven ∙ w.collects.driven b)
        ∙ or_assoc (in_parts t.driven.items b) (touched names b a) (touched_in names b others)
        ∙ ap (λ x. in_parts t.driven.items b || x) (sym (item_touched es a others b))
        ∙ c.driven b;
    read_within = λ h. subst (AreOf (length s.known.items)) (sym read) (moved t.read.items u.read.items w.collects.read_within (c.read_within h));
    driven_within = λ h. subst (AreOf (length s.known.items)) (sym driven) (moved t.driven.items u.driven.items w.collects.driven_within (c.driven_within h));
  }
    where
      moved : (xs ys : List Part) → (AreOf (length t.known.items) xs → AreOf (length t.known.items) ys) → AreOf (length s.known.items) xs → AreOf (length s.known.items) ys
      moved xs ys f h = subst (λ (n : ℕ). AreOf n ys) c.long (f (subst (λ (n : ℕ). AreOf n xs) (sym c.long) h))

  -- behind the last
  pub last_item : (items : Items) (path : List ℕ) (xs : List CaseItem) (s t : Sets) (o q : Bool) (all : List Part) → xs ≡ [] → o ≡ q → Casing items (items_of path xs) s t o all → Casing items NoItems s t q all
  last_item items path xs s t o q all e f c = subst (λ (z : Bool). Casing items NoItems s t z all) f (subst (λ (ys : List CaseItem). Casing items (items_of path ys) s t o all) e c)

  read_by_all : (items : Items) (s t : Sets) (o : Bool) (all : List Part) → Casing items NoItems s t o all → (b : Bit) →
      in_parts t.read.items b ≡ (in_parts s.read.items b || (not (in_masks s.known.items b) && (label_reads names b items || early_in names b items)))
  read_by_all items s t o all c b = looked_none (in_parts t.read.items b) (not (in_masks s.known.items b)) ∙ c.read b

  driven_by_all : (items : Items) (s t : Sets) (o : Bool) (all : List Part) → Casing items NoItems s t o all → (b : Bit) → in_parts t.driven.items b ≡ (in_parts s.driven.items b || touched_in names b items)
  driven_by_all items s t o all c b = sym (or_none (in_parts t.driven.items b)) ∙ c.driven b

  -- behind all, where nothing may have matched
  pub open_case : (items : Items) (s t : Sets) (all more : List Part) → Casing items NoItems s t true all → more ≡ [] → WalksItems names items s t more
  open_case items s t all more c e = record {
    collects = record {
      long = c.long;
      gained = λ b. ap (λ ps. in_parts ps b) e ∙ none b;
      within = rw e (λ k d l. absurd (omega arith));
      read = read_by_all items s t true all c;
      driven = driven_by_all items s t true all c;
      read_within = c.read_within;
      driven_within = c.driven_within;
    };
    known = λ b. c.known b ∙ none_known (in_masks s.known.items b) (always_in names b true items) (sym (none b));
  }
    where
      none : (b : Bit) → false ≡ (not (in_masks s.known.items b) && always_in names b true items)
      none b = and_none (in_parts all b) ∙ c.sure b

  -- behind all, where one of them was the default
  pub closed_case : (items : Items) (s t u : Sets) (all more : List Part) → Casing items NoItems s t false all → length u.known.items ≡ length t.known.items →
      ((b : Bit) → in_masks u.known.items b ≡ (in_masks t.known.items b || in_parts all b)) → u.read.items ≡ t.read.items → u.driven.items ≡ t.driven.items → AreOf (length t.known.items) more →
      ((b : Bit) → in_parts more b ≡ (not (in_masks t.known.items b) && in_parts all b)) → WalksItems names items s u more
  closed_case items s t u all more c long known read driven within gained = record {
    collects = record {
      long = long ∙ c.long;
      gained = λ b. gained b ∙ ap (λ x. not x && in_parts all b) (c.known b) ∙ ap (λ x. not (in_masks s.known.items b) && x) (every b)
          ∙ twice (in_masks s.known.items b) (always_in names b true items);
      within = let l = c.long in rw (← l) within;
      read = λ b. ap (λ xs. in_parts xs b) read ∙ read_by_all items s t false all c b;
      driven = λ b. ap (λ xs. in_parts xs b) driven ∙ driven_by_all items s t false all c b;
      read_within = λ h. subst (AreOf (length s.known.items)) (sym read) (c.read_within h);
      driven_within = λ h. subst (AreOf (length s.known.items)) (sym driven) (c.driven_within h);
    };
    known = λ b. known b ∙ ap (λ x. x || in_parts all b) (c.known b) ∙ ap (λ x. in_masks s.known.items b || x) (every b)
        ∙ known_too (in_masks s.known.items b) (always_in names b true items);
  }
    where
      every : (b : Bit) → in_parts all b ≡ (not (in_masks s.known.items b) && always_in names b true items)
      every b = sym (and_last (in_parts all b)) ∙ c.sure b

  -- no items
  pub no_items : (s : Sets) (more : List Part) → more ≡ [] → WalksItems names NoItems s s more
  no_items s more e = record {
    collects = record {
      long = refl;
      gained = λ b. ap (λ ps. in_parts ps b) e ∙ and_none (not (in_masks s.known.items b));
      within = rw e (λ k d l. absurd (omega arith));
      read = λ b. looked_none (in_parts s.read.items b) (not (in_masks s.known.items b));
      driven = λ b. sym (or_none (in_parts s.driven.items b));
      read_within = λ h. h;
      driven_within = λ h. h;
    };
    known = λ b. sym (or_none (in_masks s.known.items b));
  }

  -- an item behind its labels
  pub item_walks : (es : Exps) (a : Stm) (s t u : Sets) (more : List Part) → t.known.items ≡ s.known.items → t.driven.items ≡ s.driven.items →
      Looks s.known.items s.read.items t.read.items (λ b. some_bit_read names b es) → (AreOf (length s.known.items) s.read.items → AreOf (length s.known.items) t.read.items) → Branches names a t u more → WalksItem names es a s u more
  item_walks es a s t u more same same_driven first reads w = record {
    collects = record {
      long = w.collects.long ∙ ap length same;
      gained = λ b. w.collects.gained b ∙ ap (λ xs. not (in_masks xs b) && always names b a) same;
      within = let l : length t.known.items ≡ length s.known.items = ap length same in rw (← l) w.collects.within;
      read = λ b. w.collects.read b ∙ ap (λ x. x || (not (in_masks t.known.items b) && early names b a)) (first b)
          ∙ ap (λ xs. (in_parts s.read.items b || (not (in_masks s.known.items b) && some_bit_read names b es)) || (not (in_masks xs b) && early names b a)) same
          ∙ looked (in_parts s.read.items b) (not (in_masks s.known.items b)) (some_bit_read names b es) (early names b a);
      driven = λ b. w.collects.driven b ∙ ap (λ xs. in_parts xs b || touched names b a) same_driven;
      read_within = λ h. subst (λ (n : ℕ). AreOf n u.read.items) (ap length same) (w.collects.read_within (subst (λ (n : ℕ). AreOf n t.read.items) (sym (ap length same)) (reads h)));
      driven_within = λ h. subst (λ (n : ℕ). AreOf n u.driven.items) (ap length same) (w.collects.driven_within (subst (λ (n : ℕ). AreOf n t.driven.items) (sym (ap length same)) (subst (AreOf (length s.known.items)) (sym same_driven) h)));
    };
    known = λ b. w.known b ∙ ap (λ xs. in_masks xs b) same;
  }

  -- a case behind its value
  pub case_walks : (e : Exp) (items : Items) (s t u : Sets) (more : List Part) → t.known.items ≡ s.known.items → t.driven.items ≡ s.driven.items →
      Looks s.known.items s.read.items t.read.items (λ b. bit_read names b e) → (AreOf (length s.known.items) s.read.items → AreOf (length s.known.items) t.read.items) → WalksItems names items t u more → Walks names (Case e items) s u more
  case_walks e items s t u more same same_driven first reads w = record {
    collects = record {
      long = w.collects.long ∙ ap length same;
      gained = λ b. w.collects.gained b ∙ ap (λ xs. not (in_masks xs b) && always_in names b true items) same;
      within = let l : length t.known.items ≡ length s.known.items = ap length same in rw (← l) w.collects.within;
      read = λ b. w.collects.read b ∙ ap (λ x. x || (not (in_masks t.known.items b) && (label_reads names b items || early_in names b items))) (first b)
          ∙ ap (λ xs. (in_parts s.read.items b || (not (in_masks s.known.items b) && bit_read names b e)) || (not (in_masks xs b) && (label_reads names b items || early_in names b items))) same
          ∙ looked (in_parts s.read.items b) (not (in_masks s.known.items b)) (bit_read names b e) (label_reads names b items || early_in names b items)
          ∙ ap (λ x. in_parts s.read.items b || (not (in_masks s.known.items b) && x)) (sym (or_assoc (bit_read names b e) (label_reads names b items) (early_in names b items)));
      driven = λ b. w.collects.driven b ∙ ap (λ xs. in_parts xs b || touched_in names b items) same_driven;
      read_within = λ h. subst (λ (n : ℕ). AreOf n u.read.items) (ap length same) (w.collects.read_within (subst (λ (n : ℕ). AreOf n t.read.items) (sym (ap length same)) (reads h)));
      driven_within = λ h. subst (λ (n : ℕ). AreOf n u.driven.items) (ap length same) (w.collects.driven_within (subst (λ (n : ℕ). AreOf n t.driven.items) (sym (ap length same)) (subst (AreOf (length s.known.items)) (sym same_driven) h)));
    };
    known = λ b. w.known b ∙ ap (λ xs. in_masks xs b || always_in names b true items) same;
  }
