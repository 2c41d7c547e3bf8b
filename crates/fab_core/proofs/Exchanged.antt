-- How far residents' own banks have changed places with their parts.
use Rattle.std.proofs.Common.{◌≡◌, ◌≢◌, ℕ, ◌+◌, ◌<◌, ◌≤◌, inl, inr, List, length, set, get_or, arith, refl, ap, sym, ◌∙◌, subst}
use Rattle.std.specs.List.{All}
use Rattle.std.proofs.Math.ListN.{length-set}
use Rattle.std.proofs.lemmas.List.{get_or-set_same, get_or-set_other, get_or_read}
use Rattle.std.proofs.lemmas.Bool.{cases_eq, cases_lt}
use Rattle.ten_core.specs.cell_form.specs.Data.{BankData}
use Rattle.ten_core.specs.cell_form.specs.Sound.{shape_of}
use Rattle.ten_core.specs.cell_form.specs.Views.{bank_of}
use Rattle.fab_join.specs.Parts.{PartData, no_part, part_at, with_bank}
use Rattle.ten_core.specs.Tenants.{table_in}
use Rattle.ten_shell.specs.declared.shell.Shell.{Shell}
use Rattle.fab_model.specs.Points.{Point}
use Rattle.fab_core.specs.declared.resident.Resident.{Resident}
use Rattle.fab_core.specs.Alone.{AreAlone, IsSwapped}
use Rattle.fab_core.specs.Standing.{ArePartsApart, AreStanding, HasPart, IsPoint}
use Rattle.fab_core.proofs.Lists.{standing_at, standing_from, standing_many}

pub record IsSame (r s : Resident) : Type 0 where
  pub shell : s.tenant.shell ≡ r.tenant.shell
  pub part : s.part ≡ r.part

-- this resident's bank and part have changed places
pub record IsDone (j : List PartData) (r : Resident) (k : List PartData) (s : Resident) : Type 0 where
  pub own : bank_of s.tenant.bank ≡ (part_at j r.part).bank
  pub part : part_at k r.part ≡ with_bank (part_at j r.part) (bank_of r.tenant.bank)

-- and these haven't
pub record IsLeft (j : List PartData) (r : Resident) (k : List PartData) (s : Resident) : Type 0 where
  pub resident : s ≡ r
  pub part : part_at k r.part ≡ part_at j r.part

pub record AreSwapped (j : List PartData) (rs : List Resident) (k : List PartData) (ss : List Resident) (i : ℕ) : Type 0 where
  pub many : length ss ≡ length rs
  pub long : length k ≡ length j
  pub same : (n : ℕ) (d : Resident) → n < length rs → IsSame (get_or rs n d) (get_or ss n d)
  pub done : (n : ℕ) (d : Resident) → n < i → n < length rs → IsDone j (get_or rs n d) k (get_or ss n d)
  pub left : (n : ℕ) (d : Resident) → i ≤ n → n < length rs → IsLeft j (get_or rs n d) k (get_or ss n d)

-- the part of one resident has changed, and no other's
other_part : (k m : List PartData) (p q : ℕ) (x : PartData) → m ≡ set k p x → q ≢ p → part_at m q ≡ part_at k q
other_part k m p q x e ne = ap (λ ps. part_at ps q) e ∙ get_or-set_other k p q x no_part ne

own_part : (k m : List PartData) (p : ℕ) (x : PartData) → m ≡ set k p x → p < length k → part_at m p ≡ x
own_part k m p x e lt = ap (λ ps. part_at ps p) e ∙ get_or-set_same k p x no_part lt

parts_differ : (rs : List Resident) (a b : ℕ) (d : Resident) → ArePartsApart rs → a < length rs → b < length rs → a ≢ b → (get_or rs a d).part ≢ (get_or rs b d).part
parts_differ rs a b d apart la lb ne same =
    elim (cases_lt a b) [
      | inl lt ↦ let h = apart a b d lt lb in omega (arith, h, same)
      | inr ge ↦
          let lt : b < a = elim (cases_eq a b) [ inl e ↦ absurd (ne e) | inr n ↦ omega (arith, n, ge) ] in
          let h = apart b a d lt la in
          omega (arith, h, same)
    ]

pub swapped_more : (j k m : List PartData) (rs ss : List Resident) (i : ℕ) (old new : Resident) → i < length ss → old ≡ get_or ss i old → All (HasPart j) rs → ArePartsApart rs →
    IsSwapped k old m new → AreSwapped j rs k ss i → AreSwapped j rs m (set ss i new) (i + 1)
swapped_more j k m rs ss i old new lt read parts apart w h =
    let many = h.many in
    let long = h.long in
    let within : i < length rs = omega (arith, many, lt) in
    let was : (d : Resident) → old ≡ get_or rs i d = λ d. get_or_read ss i old lt read d ∙ (h.left i d (omega arith) within).resident in
    let there : (d : Resident) → old.part < length k = λ d. subst (λ (r : Resident). r.part < length k) (sym (was d)) (subst (λ (n : ℕ). (get_or rs i d).part < n) (sym long) (parts i d within).there) in
    let here = own_part k m old.part (with_bank (part_at k old.part) (bank_of old.tenant.bank)) w.parts (there old) in
    let before : part_at k old.part ≡ part_at j old.part = subst (λ (r : Resident). part_at k r.part ≡ part_at j r.part) (sym (was old)) (h.left i old (omega arith) within).part in
    let kept : (n : ℕ) (d : Resident) → n < length rs → n ≢ i → part_at m (get_or rs n d).part ≡ part_at k (get_or rs n d).part = λ n d ln ne.
    other_part k m old.part (get_or rs n d).part (with_bank (part_at k old.part) (bank_of old.tenant.bank)) w.parts
    (subst (λ (r : Resident). (get_or rs n d).part ≢ r.part) (sym (was d)) (parts_differ rs n i d apart ln within ne)) in
    record {
      many = length-set ss i new ∙ many;
      long = ap length w.parts ∙ length-set k old.part (with_bank (part_at k old.part) (bank_of old.tenant.bank)) ∙ long;
      same = λ n d ln. elim (cases_eq n i) [
        | inl e ↦
            let put : get_or (set ss i new) n d ≡ new = ap (λ x. get_or (set ss i new) x d) e ∙ get_or-set_same ss i new d lt in
            let at : get_or rs n d ≡ old = ap (λ x. get_or rs x d) e ∙ sym (was d) in
            record {
              shell = ap (λ (r : Resident). r.tenant.shell) put ∙ w.shell ∙ ap (λ (r : Resident). r.tenant.shell) (sym at);
              part = ap (λ (r : Resident). r.part) put ∙ w.part ∙ ap (λ (r : Resident). r.part) (sym at);
            }
        | inr ne ↦ subst (λ (r : Resident). IsSame (get_or rs n d) r) (sym (get_or-set_other ss i n new d ne)) (h.same n d ln)
      ];
      done = λ n d below ln. elim (cases_eq n i) [
        | inl e ↦
            let put : get_or (set ss i new) n d ≡ new = ap (λ x. get_or (set ss i new) x d) e ∙ get_or-set_same ss i new d lt in
            let at : get_or rs n d ≡ old = ap (λ x. get_or rs x d) e ∙ sym (was d) in
            subst (λ (r : Resident). IsDone j r m (get_or (set ss i new) n d)) (sym at) (subst (λ (s : Resident). IsDone j old m s) (sym put) (record {
              own = w.own ∙ ap (λ (x : PartData). x.bank) before;
              part = here ∙ ap (λ (x : PartData). with_bank x (bank_of old.tenant.bank)) before;
            }))
        | inr ne ↦
            let was_done = h.done n d (omega (arith, below, ne)) ln in
            subst (λ (s : Resident). IsDone j (get_or rs n d) m s) (sym (get_or-set_other ss i n new d ne)) (record { own = was_done.own; part = kept n d ln ne ∙ was_done.part })
      ];
      left = λ n d above ln.
          let ne : n ≢ i = λ e. omega (arith, e, above) in
          let was_left = h.left n d (omega (arith, above)) ln in
          subst (λ (s : Resident). IsLeft j (get_or rs n d) m s) (sym (get_or-set_other ss i n new d ne)) (record { resident = was_left.resident; part = kept n d ln ne ∙ was_left.part });
    }

-- ---- when all have changed places

module _ (j k : List PartData) (rs ss : List Resident) (i : ℕ) (all : length rs ≤ i) (h : AreSwapped j rs k ss i) where
  within_rs : (n : ℕ) → n < length ss → n < length rs
  within_rs n lt = let many = h.many in omega (arith, many, lt)

  pub swapped_alone : (ps : List Point) → AreStanding j rs ps → AreAlone ss ps
  swapped_alone ps standing = record {
    many = h.many ∙ standing_many j rs ps standing;
    each = λ n r p lt.
        let ln = within_rs n lt in
        let stood = standing_at j rs ps n r p standing ln in
        let same = h.same n r ln in
        let done = h.done n r (omega (arith, all, ln)) ln in
        subst (λ (b : BankData). IsPoint (get_or ss n r).tenant.shell b (get_or ps n p)) (sym done.own) (subst (λ (s : Shell). IsPoint s (part_at j (get_or rs n r).part).bank (get_or ps n p)) (sym same.shell) stood.point);
  }

  pub swapped_parts : All (HasPart j) rs → All (HasPart k) ss
  swapped_parts parts n d lt =
      let ln = within_rs n lt in
      let part = parts n d ln in
      let same = h.same n d ln in
      let done = h.done n d (omega (arith, all, ln)) ln in
      let long = h.long in
      let at : (get_or ss n d).part ≡ (get_or rs n d).part = same.part in
      let now : part_at k (get_or ss n d).part ≡ with_bank (part_at j (get_or rs n d).part) (bank_of (get_or rs n d).tenant.bank) = ap (part_at k) at ∙ done.part in
      record {
        there = let there = part.there in omega (arith, at, long, there);
        table = ap (λ (x : PartData). x.table) now ∙ part.table ∙ ap (λ (s : Shell). table_in s.engine) (sym same.shell);
        shape = ap shape_of done.own ∙ sym part.shape ∙ ap (λ (x : PartData). shape_of x.bank) (sym now);
      }

  pub swapped_standing : All (HasPart j) rs → (ps : List Point) → AreAlone rs ps → AreStanding k ss ps
  swapped_standing parts ps alone = standing_from k ss ps (h.many ∙ alone.many) (λ n r p lt.
      let ln = within_rs n lt in
      let same = h.same n r ln in
      let done = h.done n r (omega (arith, all, ln)) ln in
      let now : (part_at k (get_or ss n r).part).bank ≡ bank_of (get_or rs n r).tenant.bank = ap (λ (q : ℕ). (part_at k q).bank) same.part ∙ ap (λ (x : PartData). x.bank) done.part in
      record {
        part = swapped_parts parts n r lt;
        point = subst (λ (b : BankData). IsPoint (get_or ss n r).tenant.shell b (get_or ps n p)) (sym now) (subst (λ (s : Shell). IsPoint s (bank_of (get_or rs n r).tenant.bank) (get_or ps n p)) (sym same.shell) (alone.each n r p ln));
      })

  pub swapped_apart : ArePartsApart rs → ArePartsApart ss
  swapped_apart apart a b d lt lb =
      let la : a < length ss = omega (arith, lt, lb) in
      let x = (h.same a d (within_rs a la)).part in
      let y = (h.same b d (within_rs b lb)).part in
      let z = apart a b d lt (within_rs b lb) in
      omega (arith, x, y, z)
