-- The rows of the sites, as a document's values and as the sites that are read from them.
use Rattle.std.proofs.Common.{◌≡◌, ◌∙◌, ap, sym, subst, ℕ, ◌+◌, ◌<◌, List, [], ◌∷◌, ◌++◌, length, map, take, get_or, Some}
use Rattle.std.proofs.lemmas.List.{take_more, map_push}
use Rattle.toml.specs.Data.{Data, Items, no_items, item, Members, push_item}
use Rattle.toml.specs.View.{items_view, view}
use Rattle.toml.proofs.Views.{items_view-push}
use Rattle.toml.specs.declared.value.Value.{Value}
use Rattle.geo_config.specs.declared.draft.Draft.{Draft}
use Rattle.geo_config.specs.declared.draft.SiteDraft.{SiteDraft}
use Rattle.geo_config.specs.declared.settings.Config.{Config}
use Rattle.geo_config.specs.declared.settings.SiteConfig.{SiteConfig}
use Rattle.geo_config.specs.Document.{Row, IsRow, AreRows, SitesSay, row_of, row_of_draft}
use Rattle.geo_config.specs.Draft.{asks_for_tcp, is_tcp}

rows_push : (over_tcp : _) (values : Items) (rows : List Row) (value : Data) (r : Row) → AreRows over_tcp values rows → IsRow over_tcp value r
    → AreRows over_tcp (push_item values value) (rows ++ r ∷ [])
rows_push over_tcp no_items [] value r all one = (one, tt)
rows_push over_tcp no_items (x ∷ rows) value r all one = absurd all
rows_push over_tcp (item v values) [] value r all one = absurd all
rows_push over_tcp (item v values) (x ∷ rows) value r all one = (all.0, rows_push over_tcp values rows value r all.1 one)

values_more : (vs : List Value) (i : ℕ) (v : Value) → i < length vs → v ≡ get_or vs i v
    → items_view (take (i + 1) vs) ≡ push_item (items_view (take i vs)) (view v)
values_more vs i v here is = ap items_view (take_more vs i v here ∙ ap (λ x. take i vs ++ x ∷ []) (sym is)) ∙ items_view-push (take i vs) v

-- one row more, and the draft of its site
pub rows_more : (over_tcp : _) (vs : List Value) (i : ℕ) (v : Value) (sites more : List SiteDraft) (s : SiteDraft) → i < length vs → v ≡ get_or vs i v
    → more ≡ sites ++ s ∷ [] → AreRows over_tcp (items_view (take i vs)) (map row_of_draft sites) → IsRow over_tcp (view v) (row_of_draft s)
    → AreRows over_tcp (items_view (take (i + 1) vs)) (map row_of_draft more)
rows_more over_tcp vs i v sites more s here is pushed all one =
    let values = values_more vs i v here is in
    let rows = ap (map row_of_draft) pushed ∙ map_push row_of_draft sites s in
    subst (λ l. AreRows over_tcp l (map row_of_draft more)) (sym values)
    (subst (λ l. AreRows over_tcp (push_item (items_view (take i vs)) (view v)) l) (sym rows)
    (rows_push over_tcp (items_view (take i vs)) (map row_of_draft sites) (view v) (row_of_draft s) all one))

-- one site more, and its draft
pub drafts_more : (sites : List SiteConfig) (s : SiteConfig) (drafts : List SiteDraft) (d : SiteDraft) (more : List SiteConfig) → more ≡ sites ++ s ∷ []
    → map row_of sites ≡ map row_of_draft drafts → row_of s ≡ row_of_draft d → map row_of more ≡ map row_of_draft (drafts ++ d ∷ [])
drafts_more sites s drafts d more pushed all one =
    ap (map row_of) pushed ∙ map_push row_of sites s ∙ ap (λ l. l ++ row_of s ∷ []) all ∙ ap (λ r. map row_of_draft drafts ++ r ∷ []) one
    ∙ sym (map_push row_of_draft drafts d)

-- the sites say what their drafts say
pub sites_say : (document : Members) (d : Draft) (before after : Config) → SitesSay document (asks_for_tcp d.link) (map row_of_draft d.sites.items)
    → d.link ≡ Some before.link → after.link ≡ before.link → map row_of before.sites.items ≡ map row_of_draft d.sites.items
    → SitesSay document (is_tcp after.link) (map row_of before.sites.items)
sites_say document d before after say link same rows =
    subst (λ b. SitesSay document b (map row_of before.sites.items)) (ap asks_for_tcp link ∙ ap is_tcp (sym same))
    (subst (λ l. SitesSay document (asks_for_tcp d.link) l) (sym rows) say)
