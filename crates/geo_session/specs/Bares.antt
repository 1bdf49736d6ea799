-- A site that answers at one moment.
use Rattle.std.specs.Prelude.{◌≡◌, ℕ}
use Rattle.geo_requests.specs.declared.reply.Reply.{Reply}
use Rattle.geo_requests.specs.declared.request.Request.{Request}
use Rattle.geo_site.specs.Sites.{ActDoes}
use Rattle.geo_site.specs.declared.site.Site.{Site}
use Rattle.geo_session.specs.declared.bare.Bare.{Bare}

abbrev pub site_in : Bare → Site
site_in bare = bare.site

-- in seconds
abbrev pub moment_in : Bare → ℕ
moment_in bare = bare.moment

-- the site does what it does on a request at that moment, and the moment stays
pub record ActsAtMoment (old : Bare) (request : Request) (reply : Reply) (new : Bare) : Type 0 where
  pub does : ActDoes (site_in old) (site_in new) (moment_in old) request reply
  pub stays : moment_in new ≡ moment_in old
