-- Tenants that are judged one behind another.
use Rattle.std.proofs.Common.{◌≡◌, ℕ, zero, suc, ◌+◌, ◌<◌, List, [], ◌∷◌, ◌++◌, length, get_or, take, Option, Some, None, sym, ap, ◌∙◌, subst, subst₂, arith}
use Rattle.std.specs.List.{AllByRecursion}
use Rattle.std.proofs.lemmas.List.{take_more, take_all, length_push}
use Rattle.host_files.specs.host_text.specs.declared.script.FabricLine.{FabricLine}
use Rattle.host_files.specs.host_text.specs.declared.script.TenantLine.{TenantLine}
use Rattle.host_files.specs.host_text.specs.declared.script.Script.{Script}
use Rattle.host_files.specs.host_form.specs.Origins.{Tenant, IsRefused}
use Rattle.host_files.specs.declared.loaded.Loaded.{Loaded}
use Rattle.host_judge.specs.declared.judge.Verdict.{Verdict}
use Rattle.host_judge.specs.declared.judge.Verdict.TheVariants as verdict
use Rattle.host_judge.specs.declared.verdict.Judged.{Judged}
use Rattle.host_judge.specs.declared.verdict.Ready.{Ready}
use Rattle.host_files.specs.host_form.specs.declared.refusal.Refusal.{Refusal}
use Rattle.host_judge.specs.Judged.{IsTenantOf, AreTenants, AreJudged, IsReady}
use Rattle.host_judge.specs.Deciding.{IsVerdict, IsNoted, AreSoFar}
pub use Rattle.ten_core.specs.vl_base.proofs.Lists.{all_at as each-at}

-- ---- one more

more-tenants : (lines : List TenantLine) (xs : List Loaded) (ts : List Tenant) (line : TenantLine) (x : Loaded) (t : Tenant) → AreTenants lines xs ts → IsTenantOf line x t
    → AreTenants (lines ++ line ∷ []) (xs ++ x ∷ []) (ts ++ t ∷ [])
more-tenants [] [] [] line x t h k = (k, tt)
more-tenants [] [] (u ∷ ts) line x t h k = absurd h
more-tenants [] (y ∷ xs) ts line x t h k = absurd h
more-tenants (m ∷ lines) [] ts line x t h k = absurd h
more-tenants (m ∷ lines) (y ∷ xs) [] line x t h k = absurd h
more-tenants (m ∷ lines) (y ∷ xs) (u ∷ ts) line x t h k = (h.0, more-tenants lines xs ts line x t h.1 k)

more-refused : (fabrics : List FabricLine) (ts : List Tenant) (rs : List (Option Refusal)) (qs : List Ready) (t : Tenant) (r : Refusal) → AreJudged fabrics ts rs qs
    → IsRefused fabrics t r.place r.kind → AreJudged fabrics (ts ++ t ∷ []) (rs ++ Some r ∷ []) (qs ++ [])
more-refused fabrics [] [] [] t r h k = (k, tt)
more-refused fabrics [] [] (q ∷ qs) t r h k = absurd h
more-refused fabrics [] (y ∷ rs) qs t r h k = absurd h
more-refused fabrics (u ∷ ts) [] qs t r h k = absurd h
more-refused fabrics (u ∷ ts) (Some y ∷ rs) qs t r h k = (h.0, more-refused fabrics ts rs qs t r h.1 k)
more-refused fabrics (u ∷ ts) (None ∷ rs) [] t r h k = absurd h
more-refused fabrics (u ∷ ts) (None ∷ rs) (q ∷ qs) t r h k = (h.0, more-refused fabrics ts rs qs t r h.1 k)

more-ready : (fabrics : List FabricLine) (ts : List Tenant) (rs : List (Option Refusal)) (qs : List Ready) (t : Tenant) (r : Ready) → AreJudged fabrics ts rs qs
    → IsReady fabrics t r → AreJudged fabrics (ts ++ t ∷ []) (rs ++ None ∷ []) (qs ++ r ∷ [])
more-ready fabrics [] [] [] t r h k = (k, tt)
more-ready fabrics [] [] (q ∷ qs) t r h k = absurd h
more-ready fabrics [] (y ∷ rs) qs t r h k = absurd h
more-ready fabrics (u ∷ ts) [] qs t r h k = absurd h
more-ready fabrics (u ∷ ts) (Some y ∷ rs) qs t r h k = (h.0, more-ready fabrics ts rs qs t r h.1 k)
more-ready fabrics (u ∷ ts) (None ∷ rs) [] t r h k = absurd h
more-ready fabrics (u ∷ ts) (None ∷ rs) (q ∷ qs) t r h k = (h.0, more-ready fabrics ts rs qs t r h.1 k)

-- ---- one more verdict

module _ (fabrics : List FabricLine) (ts : List Tenant) (t : Tenant) (before after : Judged) (h : AreJudged fabrics ts before.refusals.items before.readies.items) where
  abbrev AreBehind : List (Option Refusal) → List Ready → Type 0
  AreBehind rs qs = AreJudged fabrics (ts ++ t ∷ []) rs qs

  by-verdict : (v : Verdict) → IsVerdict fabrics t v → IsNoted v before after → AreBehind after.refusals.items after.readies.items
  by-verdict (verdict.Runs r) k n =
      subst₂ AreBehind (sym n.refusals) (sym n.readies) (more-ready fabrics ts before.refusals.items before.readies.items t r h k)
  by-verdict (verdict.Refused r) k n =
      subst₂ AreBehind (sym n.refusals) (sym n.readies) (more-refused fabrics ts before.refusals.items before.readies.items t r h k)

one-more : (before after : Judged) (v : Verdict) → IsNoted v before after → length after.refusals.items ≡ length before.refusals.items + 1
one-more before after (verdict.Runs r) n = ap length n.refusals ∙ length_push before.refusals.items None
one-more before after (verdict.Refused r) n = ap length n.refusals ∙ length_push before.refusals.items (Some r)

module _ (s : Script) (seen : List Loaded) (before after : Judged) (h : AreSoFar s seen before) (x : Loaded) (line : TenantLine)
    (below : length before.refusals.items < length s.tenants) (at : get_or s.tenants (length before.refusals.items) line ≡ line) where
  lines-are : take (length (seen ++ x ∷ [])) s.tenants ≡ take (length seen) s.tenants ++ line ∷ []
  lines-are =
      let n : ℕ = length seen in
      let here : get_or s.tenants n line ≡ line = subst (λ (i : ℕ). get_or s.tenants i line ≡ line) h.count at in
      ap (λ (i : ℕ). take i s.tenants) (length_push seen x)
      ∙ take_more s.tenants n line (subst (λ (i : ℕ). i < length s.tenants) h.count below)
      ∙ ap (λ (l : TenantLine). take n s.tenants ++ l ∷ []) here

  pub next : (t : Tenant) (v : Verdict) → IsTenantOf line x t → IsVerdict s.fabrics t v → IsNoted v before after → AreSoFar s (seen ++ x ∷ []) after
  next t v is k n = record {
    tenants = h.tenants ++ t ∷ [];
    are = subst (λ (ls : List TenantLine). AreTenants ls (seen ++ x ∷ []) (h.tenants ++ t ∷ [])) (sym lines-are)
        (more-tenants (take (length seen) s.tenants) seen h.tenants line x t h.are is);
    verdicts = by-verdict s.fabrics h.tenants t before after h.verdicts v k n;
    count = one-more before after v n ∙ ap (λ (i : ℕ). i + 1) h.count ∙ sym (length_push seen x);
  }

-- ---- none, and all

pub none : (s : Script) (j : Judged) → j.refusals.items ≡ [] → j.readies.items ≡ [] → AreSoFar s [] j
none s j refusals readies = record {
  tenants = [];
  are = tt;
  verdicts = subst₂ (λ (rs : List (Option Refusal)) (qs : List Ready). AreJudged s.fabrics [] rs qs) (sym refusals) (sym readies) tt;
  count = ap length refusals;
}

pub all : (s : Script) (xs : List Loaded) (j : Judged) → length xs ≡ length s.tenants → AreSoFar s xs j
    → (tenants : List Tenant) × AreTenants s.tenants xs tenants × AreJudged s.fabrics tenants j.refusals.items j.readies.items
all s xs j count h =
    (h.tenants, subst (λ (ls : List TenantLine). AreTenants ls xs h.tenants) (take_all (length xs) s.tenants (omega (arith, count))) h.are, h.verdicts)
