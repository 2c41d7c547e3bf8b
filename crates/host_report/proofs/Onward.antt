-- What is told so far, and what is still to be told.
use Rattle.std.proofs.Common.{◌≡◌, ℕ, zero, suc, ◌≤◌, List, [], ◌∷◌, ◌++◌, length, drop, Option, Some, None, refl, sym, ap, ◌∙◌, subst, subst₂, arith, append_assoc}
use Rattle.std.specs.Prelude.{map}
use Rattle.host_files.specs.host_text.specs.declared.script.Script.{Script}
use Rattle.host_files.specs.host_text.specs.declared.script.TenantLine.{TenantLine}
use Rattle.host_files.specs.host_text.specs.declared.block.Block.{Block}
use Rattle.fab_model.specs.declared.transit.Transit.{Transit}
use Rattle.host_files.specs.host_form.specs.Origins.{Tenant}
use Rattle.host_files.specs.host_form.specs.Reports.{block_of, blocks_of}
use Rattle.host_files.specs.host_form.specs.Runs.{Outcome, Refused, Ran}
use Rattle.host_files.specs.host_form.specs.declared.refusal.Refusal.{Refusal}
use Rattle.host_report.specs.Ends.{AreEnds}
use Rattle.host_files.specs.declared.kept.Kept.{Kept}
use Rattle.host_report.specs.declared.lines.Said.{Said}
use Rattle.host_report.specs.declared.tell.Told.{Told}
use Rattle.host_report.specs.Endings.{IsNextTellable, IsSaid}
use Rattle.host_report.specs.Telling.{AreKept, AreTellable, IsToldOf}
use Rattle.ten_files.specs.vl_base.proofs.Lists.{append_nil as append-none}

-- the blocks of tenants of these lines
abbrev pub blocks_by : Script → List TenantLine → List Outcome → List Block
blocks_by s (l ∷ ls) (x ∷ xs) = block_of s l.name x ∷ blocks_by s ls xs
blocks_by s ls xs = []

by-lines : (s : Script) (tenants : List Tenant) (xs : List Outcome) → blocks_by s (map (λ t. t.line) tenants) xs ≡ blocks_of s tenants xs
by-lines s [] xs = refl
by-lines s (t ∷ ts) [] = refl
by-lines s (t ∷ ts) (x ∷ xs) = ap (λ (bs : List Block). block_of s t.line.name x ∷ bs) (by-lines s ts xs)

-- these blocks and snapshots are those of all tenants
pub record AreWhole (s : Script) (refusals : List (Option Refusal)) (ended : List Transit) (blocks : List Block) (kept : List (Option Kept)) : Type 0 where
  pub outcomes : List Outcome
  pub ends : AreEnds refusals ended outcomes
  pub are : blocks ≡ blocks_by s s.tenants outcomes
  pub keeps : AreKept refusals ended kept

-- with those of the tenants of these lines behind them they are those of all
pub record GoesOn (s : Script) (refusals : List (Option Refusal)) (ended : List Transit) (lines : List TenantLine) (rs : List (Option Refusal)) (es : List Transit) (blocks : List Block)
    (kept : List (Option Kept)) : Type 0 where
  pub onward : (xs : List Outcome) (ks : List (Option Kept)) → AreEnds rs es xs → AreKept rs es ks → AreWhole s refusals ended (blocks ++ blocks_by s lines xs) (kept ++ ks)

pub begins : (s : Script) (refusals : List (Option Refusal)) (ended : List Transit) → GoesOn s refusals ended s.tenants refusals ended [] []
begins s refusals ended = record { onward = λ xs ks a k. record { outcomes = xs; ends = a; are = refl; keeps = k } }

-- ---- the next tenant

pub rest-tellable : (s : Script) (name : List ℕ) (r : Option Refusal) (rs : List (Option Refusal)) (es fs : List Transit) (x : Said) → AreTellable (r ∷ rs) es → IsSaid s name r es fs x → AreTellable rs fs
rest-tellable s name (Some r) rs es fs x h said = subst (AreTellable rs) (sym said.0) h
rest-tellable s name None rs es fs x h said = let all = subst (AreTellable (None ∷ rs)) said.first h in all.1

module _ (s : Script) (refusals : List (Option Refusal)) (ended : List Transit) where
  -- a block and what is kept are put behind those so far
  shifted : (blocks : List Block) (kept : List (Option Kept)) (b c : Block) (k l : Option Kept) (bs : List Block) (ks : List (Option Kept)) → b ≡ c → k ≡ l
      → AreWhole s refusals ended (blocks ++ c ∷ bs) (kept ++ l ∷ ks) → AreWhole s refusals ended (blocks ++ b ∷ [] ++ bs) (kept ++ k ∷ [] ++ ks)
  shifted blocks kept b c k l bs ks e f w =
      let front = append_assoc blocks (b ∷ []) bs ∙ ap (λ (z : Block). blocks ++ z ∷ bs) e in
      let behind = append_assoc kept (k ∷ []) ks ∙ ap (λ (z : Option Kept). kept ++ z ∷ ks) f in
      subst₂ (λ (x : List Block) (y : List (Option Kept)). AreWhole s refusals ended x y) (sym front) (sym behind) w

  pub goes-on : (l : TenantLine) (ls : List TenantLine) (r : Option Refusal) (rs : List (Option Refusal)) (es fs : List Transit) (blocks : List Block) (kept : List (Option Kept)) (x : Said)
      → GoesOn s refusals ended (l ∷ ls) (r ∷ rs) es blocks kept → IsSaid s l.name r es fs x → GoesOn s refusals ended ls rs fs (blocks ++ x.block ∷ []) (kept ++ x.kept ∷ [])
  goes-on l ls (Some r) rs es fs blocks kept x before said = record {
    onward = λ xs ks a k.
        let here = subst (λ (z : List Transit). AreEnds rs z xs) said.0 a in
        let own = subst (λ (z : List Transit). AreKept rs z ks) said.0 k in
        shifted blocks kept x.block _ x.kept _ (blocks_by s ls xs) ks said.1.block said.1.kept (before.onward (Refused r.place r.kind ∷ xs) (None ∷ ks) (refl, here) own);
  }
  goes-on l ls None rs es fs blocks kept x before said = record {
    onward = λ xs ks a k.
        let outcomes : List Outcome = Ran said.said.run ∷ xs in
        let here = subst (λ (z : List Transit). AreEnds (None ∷ rs) z outcomes) (sym said.first) (said.said.is, a) in
        let own = subst (λ (z : List Transit). AreKept (None ∷ rs) z (Some said.said.kept ∷ ks)) (sym said.first) (said.said.by, k) in
        shifted blocks kept x.block _ x.kept _ (blocks_by s ls xs) ks said.said.block said.said.keeps (before.onward outcomes (Some said.said.kept ∷ ks) here own);
  }

-- ---- the end

none-left : (es : List Transit) → AreTellable [] es → es ≡ []
none-left [] h = refl
none-left (e ∷ es) h = absurd h

no-refusals : (rs : List (Option Refusal)) → rs ≡ [] → (es : List Transit) → AreTellable rs es → es ≡ []
no-refusals rs e es h = none-left es (subst (λ (z : List (Option Refusal)). AreTellable z es) e h)

pub all-told : (s : Script) (refusals : List (Option Refusal)) (ended : List Transit) (rs : List (Option Refusal)) (es : List Transit) (told : Told) → rs ≡ [] → AreTellable rs es
    → GoesOn s refusals ended [] rs es told.blocks.items told.kept.items → IsToldOf s refusals ended told
all-told s refusals ended rs es told none left on =
    let gone = no-refusals rs none es left in
    let ends = subst₂ (λ (y : List (Option Refusal)) (z : List Transit). AreEnds y z []) (sym none) (sym gone) tt in
    let keeps = subst₂ (λ (y : List (Option Refusal)) (z : List Transit). AreKept y z []) (sym none) (sym gone) tt in
    let w = on.onward [] [] ends keeps in
    let blocks : told.blocks.items ≡ blocks_by s s.tenants w.outcomes = sym (append-none told.blocks.items) ∙ w.are in
    record {
      outcomes = w.outcomes;
      ends = w.ends;
      blocks = λ tenants e. blocks ∙ ap (λ (ls : List TenantLine). blocks_by s ls w.outcomes) (sym e) ∙ by-lines s tenants w.outcomes;
      kept = subst (AreKept refusals ended) (append-none told.kept.items) w.keeps;
    }

pub none-there : (rs : List (Option Refusal)) → length rs ≤ 0 → rs ≡ []
none-there [] l = refl
none-there (r ∷ rs) l = absurd (omega (arith, l))

pub none-behind : (n : ℕ) (ls : List TenantLine) → length ls ≤ n → drop n ls ≡ []
none-behind zero [] l = refl
none-behind zero (x ∷ ls) l = absurd (omega (arith, l))
none-behind (suc n) [] l = refl
none-behind (suc n) (x ∷ ls) l = none-behind n ls (omega (arith, l))
