-- The sites that the program's sites stand for.
use Rattle.vl_design.specs.Seen as seen
use Rattle.vl_sites.specs.declared.site.Site.{Site}
use Rattle.vl_sites.specs.declared.site.What.{What}
use Rattle.vl_sites.specs.declared.site.What.TheVariants as w
use Rattle.vl_sites.specs.Sites as x

abbrev pub what_of : What → x.What
what_of (w.Reads k) = x.Reads k
what_of (w.Sets k word later) = x.Sets k word later
what_of (w.Heads k) = x.Heads k
what_of (w.Calls f) = x.Calls f
what_of w.Delays = x.Delays
what_of (w.Tasks call) = x.Tasks call.now.name (seen.args_of call.now.args.items)

abbrev pub site_of : Site → x.Site
site_of s = record { at = s.place; what = what_of s.what }
