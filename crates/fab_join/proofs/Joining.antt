-- The parts of a bank that grows, and of one in which a part is set.
use Rattle.std.proofs.Common.{◌≡◌, ℕ, ◌<◌, ◌≤◌, inl, List, [], ◌∷◌, ◌++◌, length, map, set, get_or, take, drop, refl, sym, ap, ◌∙◌, arith, subst, Result, Ok, Err}
use Rattle.std.specs.Result.{OnErr}
use Rattle.std.specs.List.{All}
use Rattle.std.proofs.lemmas.List.{length-append, map_push}
use Rattle.std.proofs.lemmas.List.Elements.{All-weaker, All-push}
use Rattle.std.proofs.lemmas.List.Quantifiers.{all_pairs_push}
use Rattle.trap_runtime.specs.cell_form.specs.declared.bank.Port.{Port}
use Rattle.trap_runtime.specs.cell_form.specs.Data.{BankData, TableData}
use Rattle.trap_runtime.specs.cell_form.specs.Sound.{Shape, shape_of}
use Rattle.trap_runtime.specs.cell_form.specs.Views.{table_of}
use Rattle.fab_join.specs.declared.joined.Part.{Part}
use Rattle.fab_join.specs.Banks.{part, IsWithin, AreApart, with_part, side_by_side, BeginsAs, IsLonger}
use Rattle.fab_join.specs.Laid.{shape_of_span, part_data, IsPart, PartsApart, IsLaid}
use Rattle.fab_join.specs.Numbers.{behind, from_first, numbered_table, numbered_port}
use Rattle.fab_join.specs.Parts.{PartData, part_at, with_bank, IsTable}
use Rattle.fab_join.proofs.Grown.{same_bank, part_longer, part_added, take_pasted, pasted_elsewhere, length_pasted}
use Rattle.fab_join.proofs.Laid.{map_agree, is_part, part_of_read, shape_part, with_other, with_new, view_changed}
use Rattle.fab_join.proofs.Renumbered.{table_back, ports_back}

pub when_err : {T E P : Type 0} (r : Result T E) → P → OnErr r P
when_err (Ok x) p = tt
when_err (Err e) p = p

-- ---- a bank that grows

longer : {X : Type 0} (xs ys : List X) → BeginsAs xs ys → length xs ≤ length ys
longer xs ys h = let e = ap length h.1 in let f = length-append xs h.0 in omega (arith, e, f)

within_longer : (a s : Shape) (b c : BankData) → IsLonger b c → IsWithin a s (shape_of b) → IsWithin a s (shape_of c)
within_longer a s b c l w =
    let r = longer b.regs c.regs l.regs in
    let m = longer b.mems c.mems l.mems in
    let k = longer b.slots c.slots l.slots in
    record { regs = omega (arith, w.regs, r); mems = omega (arith, w.mems, m); slots = omega (arith, w.slots, k) }

part_in_longer : (a s : Shape) (b c : BankData) → IsLonger b c → IsWithin a s (shape_of b) → part a s c ≡ part a s b
part_in_longer a s b c l w =
    let r = ap (λ xs. take s.regs (drop a.regs xs)) l.regs.1 ∙ part_longer b.regs l.regs.0 a.regs s.regs w.regs in
    let m = ap (λ xs. take s.mems (drop a.mems xs)) l.mems.1 ∙ part_longer b.mems l.mems.0 a.mems s.mems w.mems in
    let k = ap (λ xs. take s.slots (drop a.slots xs)) l.slots.1 ∙ part_longer b.slots l.slots.0 a.slots s.slots w.slots in
    same_bank (part a s c) (part a s b) r m k

pub laid_longer : (b c : BankData) (ps : List Part) → IsLonger b c → IsLaid b ps → IsLaid c ps
laid_longer b c ps l h = record {
  each = All-weaker (IsPart (shape_of b)) (IsPart (shape_of c))
      (λ p q. record { table = q.table; ports = q.ports; table_is = q.table_is; ports_are = q.ports_are; may_run = q.may_run; within = within_longer (shape_of_span p.place) (shape_of_span p.size) b c l q.within }) ps h.each;
  apart = h.apart;
}

pub view_longer : (b c : BankData) (ps : List Part) → IsLonger b c → IsLaid b ps → map (part_data c) ps ≡ map (part_data b) ps
view_longer b c ps l h = map_agree (part_data b) (part_data c) ps
    (λ k d lt.
    let p = get_or ps k d in
    with_other b c p (part_in_longer (shape_of_span p.place) (shape_of_span p.size) b c l (h.each k d lt).within))

longer_beside : (b own : BankData) → IsLonger b (side_by_side b own)
longer_beside b own = record { regs = (own.regs, refl); mems = (own.mems, refl); slots = (own.slots, refl) }

-- ---- a part that is added at the end

pub record Joins (b own : BankData) (t : TableData) (own_ports : List Port) (x : Part) : Type 0 where
  pub place : shape_of_span x.place ≡ shape_of b
  pub size : shape_of_span x.size ≡ shape_of own
  pub table : table_of x.table ≡ numbered_table (behind (shape_of_span x.place)) t
  pub ports : x.ports.ports ≡ map (numbered_port (behind (shape_of_span x.place))) own_ports
  pub may_run : IsTable (shape_of own) t

module _ (b own : BankData) (t : TableData) (ports : List Port) (x : Part) (j : Joins b own t ports x) where
  joined_part : IsPart (shape_of (side_by_side b own)) x
  joined_part =
      let r = length-append b.regs own.regs in
      let m = length-append b.mems own.mems in
      let k = length-append b.slots own.slots in
      let W : Shape → Shape → Type 0 = λ a s. IsWithin a s (shape_of (side_by_side b own)) in
      let w : W (shape_of b) (shape_of own) = record { regs = omega (arith, r); mems = omega (arith, m); slots = omega (arith, k) } in
      let v : W (shape_of_span x.place) (shape_of own) = subst (λ (a : Shape). W a (shape_of own)) (sym j.place) w in
      record {
        table = t;
        ports = ports;
        table_is = j.table;
        ports_are = j.ports;
        may_run = subst (λ (s : Shape). IsTable s t) (sym j.size) j.may_run;
        within = subst (W (shape_of_span x.place)) (sym j.size) v;
      }

  joined_data : part_data (side_by_side b own) x ≡ record { table = t; ports = ports; bank = own }
  joined_data =
      let c = side_by_side b own in
      let a = shape_of_span x.place in
      let e : numbered_table (from_first a) (table_of x.table) ≡ t = ap (numbered_table (from_first a)) j.table ∙ table_back a t in
      let ps = map (numbered_port (from_first a)) x.ports.ports in
      let f : ps ≡ ports = ap (map (numbered_port (from_first a))) j.ports ∙ ports_back a ports in
      let r = part_added b.regs own.regs in
      let m = part_added b.mems own.mems in
      let k = part_added b.slots own.slots in
      let own_part : part (shape_of b) (shape_of own) c ≡ own = same_bank (part (shape_of b) (shape_of own) c) own r m k in
      let g : part a (shape_of_span x.size) c ≡ own = ap (λ (z : Shape). part z (shape_of_span x.size) c) j.place ∙ ap (λ (s : Shape). part (shape_of b) s c) j.size ∙ own_part in
      ap (λ (y : TableData). record { table = y; ports = ps; bank = part a (shape_of_span x.size) c }) e
      ∙ ap (λ (qs : List Port). record { table = t; ports = qs; bank = part a (shape_of_span x.size) c }) f
      ∙ ap (λ (z : BankData). record { table = t; ports = ports; bank = z }) g

  pub laid_joined : (ps : List Part) → IsLaid b ps → IsLaid (side_by_side b own) (ps ++ x ∷ [])
  laid_joined ps h =
      let grown = laid_longer b (side_by_side b own) ps (longer_beside b own) h in
      record {
        each = All-push (IsPart (shape_of (side_by_side b own))) ps x grown.each joined_part;
        apart = all_pairs_push PartsApart ps x h.apart
            (λ k d lt.
            let w = (h.each k d lt).within in
            let p = get_or ps k d in
            subst (λ (a : Shape). AreApart (shape_of_span p.place) (shape_of_span p.size) a (shape_of_span x.size)) (sym j.place) (record { regs = inl w.regs; mems = inl w.mems; slots = inl w.slots }));
      }

  pub view_joined : (ps : List Part) → IsLaid b ps → map (part_data (side_by_side b own)) (ps ++ x ∷ []) ≡ map (part_data b) ps ++ record { table = t; ports = ports; bank = own } ∷ []
  view_joined ps h =
      map_push (part_data (side_by_side b own)) ps x
      ∙ ap (λ qs. qs ++ part_data (side_by_side b own) x ∷ []) (view_longer b (side_by_side b own) ps (longer_beside b own) h)
      ∙ ap (λ q. map (part_data b) ps ++ q ∷ []) joined_data

-- ---- a part that is set

module _ (a : Shape) (own b : BankData) (w : IsWithin a (shape_of own) (shape_of b)) where
  shape_put : shape_of (with_part a own b) ≡ shape_of b
  shape_put =
      let r = length_pasted b.regs own.regs a.regs w.regs in
      let m = length_pasted b.mems own.mems a.mems w.mems in
      let k = length_pasted b.slots own.slots a.slots w.slots in
      cc

  part_put : part a (shape_of own) (with_part a own b) ≡ own
  part_put =
      same_bank (part a (shape_of own) (with_part a own b)) own
      (take_pasted b.regs own.regs a.regs w.regs) (take_pasted b.mems own.mems a.mems w.mems) (take_pasted b.slots own.slots a.slots w.slots)

  put_elsewhere : (c t : Shape) → AreApart a (shape_of own) c t → part c t (with_part a own b) ≡ part c t b
  put_elsewhere c t apart =
      same_bank (part c t (with_part a own b)) (part c t b)
      (pasted_elsewhere b.regs own.regs a.regs c.regs t.regs w.regs apart.regs)
      (pasted_elsewhere b.mems own.mems a.mems c.mems t.mems w.mems apart.mems)
      (pasted_elsewhere b.slots own.slots a.slots c.slots t.slots w.slots apart.slots)

module _ (b own : BankData) (ps : List Part) (i : ℕ) (x : Part) (lt : i < length ps) (read : x ≡ get_or ps i x) (h : IsLaid b ps) (e : shape_of own ≡ shape_of (part_at (map (part_data b) ps) i).bank) where
  -- the size of what is put is that of the part
  pub put_size : shape_of own ≡ shape_of_span x.size
  put_size =
      e ∙ ap (λ (d : PartData). shape_of d.bank) (part_of_read b ps i x lt read)
      ∙ shape_part (shape_of_span x.place) (shape_of_span x.size) b (is_part (shape_of b) ps i x lt read h.each).within

  pub put_within : IsWithin (shape_of_span x.place) (shape_of own) (shape_of b)
  put_within =
      subst (λ (s : Shape). IsWithin (shape_of_span x.place) s (shape_of b)) (sym put_size) (is_part (shape_of b) ps i x lt read h.each).within

  pub laid_put : IsLaid (with_part (shape_of_span x.place) own b) ps
  laid_put =
      record { each = subst (λ (t : Shape). All (IsPart t) ps) (sym (shape_put (shape_of_span x.place) own b put_within)) h.each; apart = h.apart }

  pub view_put : map (part_data (with_part (shape_of_span x.place) own b)) ps ≡ set (map (part_data b) ps) i (with_bank (part_at (map (part_data b) ps) i) own)
  view_put =
      let a = shape_of_span x.place in
      let c = with_part a own b in
      let mine : part a (shape_of_span x.size) c ≡ own = ap (λ (s : Shape). part a s c) (sym put_size) ∙ part_put a own b put_within in
      view_changed b c own ps i x lt read (with_new b c own x mine)
      (λ q apart.
      let clear : AreApart a (shape_of own) (shape_of_span q.place) (shape_of_span q.size) = subst (λ (s : Shape). AreApart a s (shape_of_span q.place) (shape_of_span q.size)) (sym put_size) apart in
      with_other b c q (put_elsewhere a own b put_within (shape_of_span q.place) (shape_of_span q.size) clear)) h
