-- What stands at no site of a function without faults.
use Rattle.std.proofs.Common.{◌≡◌, ℕ, nat_lt, Bool, false, List, [], ◌∷◌, length, refl}
use Rattle.std.specs.Prelude.{◌++◌, ◌||◌, ◌&&◌, flat_map}
use Rattle.std.specs.List.{list_any}
use Rattle.vl_loops.specs.vl_design.specs.Placed as p
use Rattle.vl_loops.specs.vl_design.specs.Stops.{construct_if}
use Rattle.sub_runs.specs.vl_sites.specs.Sites as s
use Rattle.elab_laws.specs.vl_check.specs.Bodies.{Setting, of_function, kind_is}
use Rattle.elab_laws.specs.vl_check.specs.Headers.{loop_faults}
use Rattle.elab_laws.specs.vl_check.specs.Rules.{is_clock, is_loop, names, sets, is_delay, is_task, is_pure, is_foreign, writes_memory, is_untimely, site_faults, sites_faults}
use Rattle.elab_laws.specs.vl_check.specs.Standing.{body_faults}
use Rattle.elab_laws.specs.vl_accept.proofs.Clean.{left-none, right-none, not-stopped, or-both}
use Rattle.elab_laws.specs.vl_accept.proofs.Pure.{Free}
use Rattle.elab_laws.specs.vl_accept.proofs.Faults.{free_of as free-of}

-- a nonblocking assignment, or a system task
abbrev pub acts : s.What → Bool
acts w = is_delay w || is_task w

sets-free : (P : ℕ → Bool) (w : s.What) → names P w ≡ false → sets P w ≡ false
sets-free P (s.Sets j word later) h = h
sets-free P (s.Reads j) h = refl
sets-free P (s.Heads j) h = refl
sets-free P (s.Calls f) h = refl
sets-free P s.Delays h = refl
sets-free P (s.Tasks name given) h = refl

module _ (d : p.Design) (f : p.Func) where
  abbrev b : Setting
  b = of_function d f

  -- the name of a signal of the design
  abbrev is-shared : ℕ → Bool
  is-shared k = nat_lt k (length d.signals)

  module _ (x : s.Site) (h : site_faults b x ≡ []) where
    -- the faults of construct 18 and those behind
    from18 : construct_if (is_pure b.role && is_task x.what) x.at 18 ++ (construct_if (is_foreign b.role b.shared x.what) x.at 20
        ++ (construct_if (sets (kind_is is_loop (b.shared ++ b.own)) x.what) x.at 21 ++ (construct_if (writes_memory b.role x.what) x.at 22 ++ construct_if (is_untimely b.role b.shared x.what) x.at 23))) ≡ []
    from18 = right-none (construct_if (is_pure b.role && is_delay x.what) x.at 17) _ (right-none (construct_if (names (kind_is is_clock b.shared) x.what) x.at 15) _ h)

    site-still : acts x.what ≡ false
    site-still = or-both (is_delay x.what) (is_task x.what)
        (not-stopped (is_pure b.role && is_delay x.what) x.at 17 (left-none _ _ (right-none (construct_if (names (kind_is is_clock b.shared) x.what) x.at 15) _ h)))
        (not-stopped (is_pure b.role && is_task x.what) x.at 18 (left-none _ _ from18))

    site-own : sets is-shared x.what ≡ false
    site-own = sets-free is-shared x.what (not-stopped (is_foreign b.role b.shared x.what) x.at 20 (left-none _ _ (right-none (construct_if (is_pure b.role && is_task x.what) x.at 18) _ from18)))

  module _ (h : body_faults b f.body ≡ []) where
    all-none : flat_map (site_faults b) (s.sites f.body) ≡ []
    all-none = left-none (sites_faults b f.body) (loop_faults b [] f.body) h

    pub body-still : Free acts (s.sites f.body)
    body-still = free-of b acts site-still (s.sites f.body) all-none

    pub body-own : Free (sets is-shared) (s.sites f.body)
    body-own = free-of b (sets is-shared) site-own (s.sites f.body) all-none
