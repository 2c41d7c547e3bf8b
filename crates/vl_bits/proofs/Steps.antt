-- Walks through statements, step by step: k is known, r read.
use Rattle.std.proofs.Common.{◌≡◌, ◌<◌, ℕ, Bool, true, false, List, [], ◌++◌, length, refl, sym, ap, ◌∙◌, subst, arith}
use Rattle.std.specs.Prelude.{◌||◌, ◌&&◌, not, Result, Ok, Err, IfOk, OnOk}
use Rattle.std.proofs.lemmas.Grind.{common_steps}
use Rattle.std.proofs.lemmas.List.Elements.{All-append}
use Rattle.vl_base.specs.declared.bits.UnOp.TheVariants.{LogNot}
use Rattle.vl_design.specs.Placed as p
use Rattle.vl_design.specs.Plainly.{called_first}
use Rattle.vl_design.specs.Sound.{IsSoundStm}
use Rattle.vl_design.specs.Syntax.{Exp, Target, Stm, Nop, Then, If, Set}
use Rattle.vl_design.specs.Width.{Names}
use Rattle.vl_paths.specs.Bits.{Bit, bit_read, index_reads, bit_set}
use Rattle.vl_paths.specs.Paths.{always, early}
use Rattle.vl_paths.specs.Touched.{touched}
use Rattle.vl_bits.specs.declared.parts.Part.{Part}
use Rattle.vl_bits.specs.Masks.{in_masks, in_parts, AreOf, Looks}
use Rattle.vl_bits.proofs.Lists.{joined, or_assoc, or_none}
use Rattle.vl_bits.proofs.Looking.{looked}
use Rattle.vl_bits.specs.declared.sets.Sets.{Sets}
use Rattle.vl_bits.specs.Walks.{Collects, Gains, Keeps, Walks, Branches}
use Rattle.vl_base.proofs.Booleans.{and_false_back as and_none}

gained_then : (k a b : Bool) → ((not k && a) || (not (k || a) && b)) ≡ (not k && (a || b))
gained_then true a b = refl
gained_then false true b = refl
gained_then false false b = refl

read_then : (r k e a f : Bool) → ((r || (not k && e)) || (not (k || a) && f)) ≡ (r || (not k && (e || (not a && f))))
read_then true k e a f = refl
read_then false true e a f = refl
read_then false false true a f = refl
read_then false false false true f = refl
read_then false false false false f = refl

read_if : (r k t e f : Bool) → (((r || (not k && t)) || (not k && e)) || (not k && f)) ≡ (r || (not k && (t || (e || f))))
read_if true k t e f = refl
read_if false true t e f = refl
read_if false false true e f = refl
read_if false false false true f = refl
read_if false false false false f = refl

restored : (k a : Bool) → ((k || a) && not (not k && a)) ≡ k
restored true a = refl
restored false true = refl
restored false false = refl

gained_both : (k a b : Bool) → (not k && ((not k && a) && (not k && b))) ≡ (not k && (a && b))
gained_both true a b = refl
gained_both false a b = refl

known_both : (k a b : Bool) → (k || ((not k && a) && (not k && b))) ≡ (k || (a && b))
known_both true a b = refl
known_both false a b = refl

-- what is gained wasn't known
pub was_unknown : (k a x : Bool) → x ≡ (not k && a) → x ≡ true → k ≡ false
was_unknown true a x e h = let z : ⊥ = cc in absurd z
was_unknown false a x e h = refl

-- nothing is done
pub nothing : (s : Sets) (more : List Part) → more ≡ [] → Gains (λ b. false) (λ b. false) (λ b. false) s s more
nothing s more e = record {
  collects = record {
    long = refl;
    gained = λ b. ap (λ ps. in_parts ps b) e ∙ and_none (not (in_masks s.known.items b));
    within = rw e (λ k d l. absurd (omega arith));
    read = λ b. sym (ap (λ x. in_parts s.read.items b || x) (sym (and_none (not (in_masks s.known.items b)))) ∙ or_none (in_parts s.read.items b));
    driven = λ b. sym (or_none (in_parts s.driven.items b));
    read_within = λ h. h;
    driven_within = λ h. h;
  };
  known = λ b. sym (or_none (in_masks s.known.items b));
}

module _ (names : Names) where
  -- an assignment: what is read, what it may write, and what it writes for sure
  pub set_walks : (t : Target) (e : Exp) (s u : Sets) (middle sure more : List Part) → length u.known.items ≡ length s.known.items →
      Looks s.known.items s.read.items middle (λ b. index_reads names b t) → Looks s.known.items middle u.read.items (λ b. bit_read names b e) →
      ((b : Bit) → in_parts u.driven.items b ≡ (in_parts s.driven.items b || bit_set names true b t)) →
      ((b : Bit) → in_parts sure b ≡ bit_set names false b t) →
      ((b : Bit) → in_masks u.known.items b ≡ (in_masks s.known.items b || in_parts sure b)) → AreOf (length s.known.items) more →
      ((b : Bit) → in_parts more b ≡ (not (in_masks s.known.items b) && in_parts sure b)) →
      (AreOf (length s.known.items) s.read.items → AreOf (length s.known.items) u.read.items) →
      (n : ℕ) → length s.known.items ≡ n → (AreOf n s.driven.items → AreOf n u.driven.items) → Walks names (Set t e) s u more
  set_walks t e s u middle sure more long first second driven is known within gained reads n many drives = record {
    collects = record {
      long = long;
      gained = λ b. gained b ∙ ap (λ x. not (in_masks s.known.items b) && x) (is b);
      within = within;
      read = λ b. second b ∙ ap (λ x. x || (not (in_masks s.known.items b) && bit_read names b e)) (first b)
          ∙ looked (in_parts s.read.items b) (not (in_masks s.known.items b)) (index_reads names b t) (bit_read names b e);
      driven = driven;
      read_within = reads;
      driven_within = λ h. subst (λ (k : ℕ). AreOf k u.driven.items) (sym many) (drives (subst (λ (k : ℕ). AreOf k s.driven.items) many h));
    };
    known = λ b. known b ∙ ap (λ x. in_masks s.known.items b || x) (is b);
  }

  -- one after the other
  pub then_walks : (a c : Stm) (s t u : Sets) (p q : List Part) → Walks names a s t p → Walks names c t u q → Walks names (Then a c) s u (p ++ q)
  then_walks a c s t u p q f g = record {
    collects = record {
      long = g.collects.long ∙ f.collects.long;
      gained = λ b. joined p q b ∙ ap (λ x. x || in_parts q b) (f.collects.gained b)
          ∙ ap (λ x. (not (in_masks s.known.items b) && always names b a) || x) (g.collects.gained b ∙ ap (λ x. not x && always names b c) (f.known b))
          ∙ gained_then (in_masks s.known.items b) (always names b a) (always names b c);
      within = All-append (λ x. x.signal < length s.known.items) p q f.collects.within (rw (← f.collects.long) g.collects.within);
      read = λ b. g.collects.read b
          ∙ ap (λ x. x || (not (in_masks t.known.items b) && early names b c)) (f.collects.read b)
          ∙ ap (λ x. (in_parts s.read.items b || (not (in_masks s.known.items b) && early names b a)) || (not x && early names b c)) (f.known b)
          ∙ read_then (in_parts s.read.items b) (in_masks s.known.items b) (early names b a) (always names b a) (early names b c);
      driven = λ b. g.collects.driven b ∙ ap (λ x. x || touched names b c) (f.collects.driven b) ∙ or_assoc (in_parts s.driven.items b) (touched names b a) (touched names b c);
      read_within = λ h. subst (λ (n : ℕ). AreOf n u.read.items) f.collects.long (g.collects.read_within (subst (λ (n : ℕ). AreOf n t.read.items) (sym f.collects.long) (f.collects.read_within h)));
      driven_within = λ h. subst (λ (n : ℕ). AreOf n u.driven.items) f.collects.long (g.collects.driven_within (subst (λ (n : ℕ). AreOf n t.driven.items) (sym f.collects.long) (f.collects.driven_within h)));
    };
    known = λ b. g.known b ∙ ap (λ x. x || always names b c) (f.known b) ∙ or_assoc (in_masks s.known.items b) (always names b a) (always names b c);
  }

  -- a walk whose gain is hidden again
  pub hidden : (a : Stm) (s t u : Sets) (more : List Part) → Walks names a s t more → length u.known.items ≡ length t.known.items →
      ((b : Bit) → in_masks u.known.items b ≡ (in_masks t.known.items b && not (in_parts more b))) → u.read.items ≡ t.read.items → u.driven.items ≡ t.driven.items → Branches names a s u more
  hidden a s t u more w long known read driven = record {
    collects = record {
      long = long ∙ w.collects.long;
      gained = w.collects.gained;
      within = w.collects.within;
      read = λ b. ap (λ xs. in_parts xs b) read ∙ w.collects.read b;
      driven = λ b. ap (λ xs. in_parts xs b) driven ∙ w.collects.driven b;
      read_within = λ h. subst (AreOf (length s.known.items)) (sym read) (w.collects.read_within h);
      driven_within = λ h. subst (AreOf (length s.known.items)) (sym driven) (w.collects.driven_within h);
    };
    known = λ b. known b ∙ ap (λ x. x && not (in_parts more b)) (w.known b) ∙ ap (λ x. (in_masks s.known.items b || always names b a) && not x) (w.collects.gained b)
        ∙ restored (in_masks s.known.items b) (always names b a);
  }

  -- both branches, and what both gain
  pub if_walks : (e : Exp) (a c : Stm) (s t u v w : Sets) (p q more : List Part) → t.known.items ≡ s.known.items → t.driven.items ≡ s.driven.items →
      Looks s.known.items s.read.items t.read.items (λ b. bit_read names b e) → Branches names a t u p → Branches names c u v q →
      length w.known.items ≡ length v.known.items → w.read.items ≡ v.read.items → w.driven.items ≡ v.driven.items →
      ((b : Bit) → in_masks w.known.items b ≡ (in_masks v.known.items b || (in_parts p b && in_parts q b))) → AreOf (length v.known.items) more →
      ((b : Bit) → in_parts more b ≡ (not (in_masks v.known.items b) && (in_parts p b && in_parts q b))) →
      (AreOf (length s.known.items) s.read.items → AreOf (length s.known.items) t.read.items) → Walks names (If e a c) s w more
  if_walks e a c s t u v w p q more same same_driven first f g long read driven known within gained reads = record {
    collects = record {
      long = long ∙ g.collects.long ∙ f.collects.long ∙ ap length same;
      gained = λ b. gained b ∙ ap (λ x. not x && (in_parts p b && in_parts q b)) (back b) ∙ ap (λ x. not (in_masks s.known.items b) && (x && in_parts q b)) (one b)
          ∙ ap (λ x. not (in_masks s.known.items b) && ((not (in_masks s.known.items b) && always names b a) && x)) (two b)
          ∙ gained_both (in_masks s.known.items b) (always names b a) (always names b c);
      within = let l : length v.known.items ≡ length s.known.items = g.collects.long ∙ f.collects.long ∙ ap length same in rw (← l) within;
      read = λ b. ap (λ xs. in_parts xs b) read ∙ g.collects.read b
          ∙ ap (λ x. x || (not (in_masks u.known.items b) && early names b c)) (f.collects.read b ∙ ap (λ x. x || (not (in_masks t.known.items b) && early names b a)) (first b))
          ∙ ap (λ x. ((in_parts s.read.items b || (not (in_masks s.known.items b) && bit_read names b e)) || (not (in_masks t.known.items b) && early names b a)) || (not x && early names b c)) (f.known b ∙ ap (λ xs. in_masks xs b) same)
          ∙ ap (λ xs. ((in_parts s.read.items b || (not (in_masks s.known.items b) && bit_read names b e)) || (not (in_masks xs b) && early names b a)) || (not (in_masks s.known.items b) && early names b c)) same
          ∙ read_if (in_parts s.read.items b) (in_masks s.known.items b) (bit_read names b e) (early names b a) (early names b c);
      driven = λ b. ap (λ xs. in_parts xs b) driven ∙ g.collects.driven b ∙ ap (λ x. x || touched names b c) (f.collects.driven b ∙ ap (λ xs. in_parts xs b || touched names b a) same_driven)
          ∙ or_assoc (in_parts s.driven.items b) (touched names b a) (touched names b c);
      read_within = λ h. subst (λ (n : ℕ). AreOf n w.read.items) to_s (subst (AreOf (length u.known.items)) (sym read)
          (g.collects.read_within (subst (λ (n : ℕ). AreOf n u.read.items) (sym f.collects.long)
          (f.collects.read_within (subst (λ (n : ℕ). AreOf n t.read.items) (sym (ap length same)) (reads h))))));
      driven_within = λ h. subst (λ (n : ℕ). AreOf n w.driven.items) to_s (subst (AreOf (length u.known.items)) (sym driven)
          (g.collects.driven_within (subst (λ (n : ℕ). AreOf n u.driven.items) (sym f.collects.long)
          (f.collects.driven_within (subst (λ (n : ℕ). AreOf n t.driven.items) (sym (ap length same)) (subst (AreOf (length s.known.items)) (sym same_driven) h))))));
    };
    known = λ b. known b ∙ ap (λ x. x || (in_parts p b && in_parts q b)) (back b) ∙ ap (λ x. in_masks s.known.items b || (x && in_parts q b)) (one b)
        ∙ ap (λ x. in_masks s.known.items b || ((not (in_masks s.known.items b) && always names b a) && x)) (two b)
        ∙ known_both (in_masks s.known.items b) (always names b a) (always names b c);
  }
    where
      to_s : length u.known.items ≡ length s.known.items
      to_s = f.collects.long ∙ ap length same

      back : (b : Bit) → in_masks v.known.items b ≡ in_masks s.known.items b
      back b = g.known b ∙ f.known b ∙ ap (λ xs. in_masks xs b) same

      one : (b : Bit) → in_parts p b ≡ (not (in_masks s.known.items b) && always names b a)
      one b = f.collects.gained b ∙ ap (λ xs. not (in_masks xs b) && always names b a) same

      two : (b : Bit) → in_parts q b ≡ (not (in_masks s.known.items b) && always names b c)
      two b = g.collects.gained b ∙ ap (λ x. not x && always names b c) (f.known b ∙ ap (λ xs. in_masks xs b) same)

  -- a call of a system function that comes first adds nothing
  pub called_walks : (path : List ℕ) (x : p.Exp) (a : Stm) (s t : Sets) (more : List Part) → Walks names a s t more → Walks names (called_first path x a) s t more
  called_walks path (p.Sys at name given) a s t more w = w
  called_walks path (p.Un at LogNot (p.Sys q name given)) a s t more w = w
  called_walks path x a s t more w = w

  pub called_sound : (path : List ℕ) (x : p.Exp) (a : Stm) → IsSoundStm names (called_first path x a) → IsSoundStm names a
  called_sound path (p.Sys at name given) a h = h.1
  called_sound path (p.Un at LogNot (p.Sys q name given)) a h = h.1
  called_sound path x a h = h

-- ---- clauses together

pub four : {X E P Q : Type 0} {R S T : X → Type 0} (r : Result X E) → ((v : X) → P → Q → R v → S v → T v) → OnOk r P → OnOk r Q → IfOk r R → IfOk r S → IfOk r T
four (Ok v) f p q x y = f v p q x y
four (Err e) f p q x y = tt
