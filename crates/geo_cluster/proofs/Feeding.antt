-- What the clients of sites are answered.
use Rattle.std.proofs.Common.{◌≡◌, ◌≢◌, ℕ, Bool, true, false, true≢false, List, [], ◌∷◌, ◌++◌, length, slice_get, slice_set, length-set, ◌-◌, Option, Some, refl, sym, ap, subst, ◌∙◌, append_assoc, append-nil}
use Rattle.geo_grammar.specs.Replies.{answer_bytes}
use Rattle.geo_grammar.specs.declared.item.Item.{Item}
use Rattle.geo_grammar.specs.declared.item.Item.TheVariants.{Request, Fault}
use Rattle.geo_requests.specs.declared.request.Request as asked
use Rattle.geo_requests.specs.declared.reply.Reply.{Reply}
use Rattle.geo_requests.specs.declared.reply.Reply.TheVariants.{OutOfMemory}
use Rattle.geo_world.specs.declared.event.Event.TheVariants.{Command}
use Rattle.geo_world.specs.declared.event.Trace.{Trace}
use Rattle.geo_world.specs.declared.event.Trace.TheVariants.{Replied}
use Rattle.geo_world.specs.Setups.{start}
use Rattle.geo_world.specs.Tables.{empty_tables}
use Rattle.geo_world.specs.There.{is_site}
use Rattle.geo_world.specs.Running.{HasAllRun}
use Rattle.geo_world.specs.Doing.{RunsAlone}
use Rattle.geo_cluster.specs.Progress.{Progress, followed}
use Rattle.geo_cluster.specs.Sayings.{SaysClient}
use Rattle.geo_cluster.specs.Effects.{AnswersItem, AnswersItems, connected}
use Rattle.geo_cluster.specs.Connections.{Brings}
use Rattle.geo_cluster.specs.Prints.{client_text}
use Rattle.geo_cluster.specs.Standing.{Stands, Steps, AnswersBehind, AnswersFor, CarriesOut}
use Rattle.geo_cluster.specs.declared.script.cluster.Cluster.{Cluster}
use Rattle.geo_cluster.specs.declared.script.connection.Connection.{Connection}
use Rattle.geo_world.specs.declared.world.World.{World}
use Rattle.geo_cluster.proofs.Setting.{not_true}

-- one item more
AnswersItems-more : (items : List Item) (s : ℕ) (a b c : Progress) (item : Item) (t u : List ℕ) → AnswersItems a s items t b → AnswersItems b s (item ∷ []) u c → AnswersItems a s (items ++ item ∷ []) (t ++ u) c
AnswersItems-more [] s a b c item t u h k = subst (λ (x : Progress). AnswersItems x s (item ∷ []) (t ++ u) c) h.1 (subst (λ (x : List ℕ). AnswersItems b s (item ∷ []) (x ++ u) c) (sym h.0) k)
AnswersItems-more (i ∷ is) s a b c item t u h k = (h.0, h.1, h.2 ++ u, h.3, AnswersItems-more is s h.0 b c item h.2 u h.4 k, ap (λ (x : List ℕ). x ++ u) h.5 ∙ append_assoc h.1 h.2 u)

pub answers_one : (p q : Progress) (s : ℕ) (item : Item) (text : List ℕ) → AnswersItem p s item text q → AnswersItems p s (item ∷ []) text q
answers_one p q s item text h = (q, text, [], h, (refl, refl), sym (append-nil text))

-- sites stay what they were told
answer_setups : (p q : Progress) (s : ℕ) (item : Item) (text : List ℕ) → AnswersItem p s item text q → q.setups ≡ p.setups
answer_setups p q s (Request request) text h = ap (λ (x : Progress). x.setups) h.rest
answer_setups p q s (Fault fault) text h = ap (λ (x : Progress). x.setups) h.1

answers_setups : (items : List Item) (p q : Progress) (s : ℕ) (text : List ℕ) → AnswersItems p s items text q → q.setups ≡ p.setups
answers_setups [] p q s text h = ap (λ (x : Progress). x.setups) h.1
answers_setups (i ∷ is) p q s text h = answers_setups is h.0 q s h.2 h.4 ∙ answer_setups p h.0 s i h.1 h.3

pub answers_none : (cluster : Cluster) (s : ℕ) (out : List ℕ) → AnswersFor cluster s [] out true out cluster
answers_none cluster s out p st is = (refl, record { progress = p; text = []; answers = (refl, refl); stands = st; printed = sym (append-nil out) })

pub answers_more : (s : ℕ) (items : List Item) (item : Item) (there : Bool) (before mid after : List ℕ) (a b c : Cluster) → AnswersFor a s items before true mid b → AnswersFor b s (item ∷ []) mid there after c → there ≡ true → AnswersFor a s (items ++ item ∷ []) before true after c
answers_more s items item there before mid after a b c first then is p st site =
    let h = (first p st site).1 in
    let k = (then h.progress h.stands (ap (λ xs. is_site (length xs) s) (answers_setups items p h.progress s h.text h.answers) ∙ site)).1 in (
      refl,
      record {
        progress = k.progress;
        text = h.text ++ k.text;
        answers = AnswersItems-more items s p h.progress k.progress item h.text k.text h.answers k.answers;
        stands = k.stands;
        printed = k.printed ∙ ap (λ (x : List ℕ). x ++ k.text) h.printed ∙ append_assoc before h.text k.text;
      },
    )

-- where one is not answered no site of this number is there
pub answers_fail : (s : ℕ) (items rest : List Item) (item : Item) (there : Bool) (before mid after : List ℕ) (a b c : Cluster) → AnswersFor a s items before true mid b → AnswersFor b s (item ∷ []) mid there after c → there ≡ false → AnswersFor a s (items ++ item ∷ rest) before false after c
answers_fail s items rest item there before mid after a b c first then is p st site =
    let h = (first p st site).1 in
    let k = then h.progress h.stands (ap (λ xs. is_site (length xs) s) (answers_setups items p h.progress s h.text h.answers) ∙ site) in
    absurd (true≢false (sym k.0 ∙ is))

pub same_request : (s t m n : ℕ) (a b : asked.Request) → Command s m a ≡ Command t n b → a ≡ b
same_request s t m n a b h = cc

-- a request that is answered
pub replied : (p : Progress) (old new : Cluster) (s : ℕ) (request : asked.Request) (outcome : Option Trace) (reply : Reply) (victim : Option (List ℕ)) (before after : List ℕ) → Stands p old → outcome ≡ Some (Replied reply victim) → Steps old (Command s old.moment request) outcome new
    → reply ≢ OutOfMemory → after ≡ before ++ answer_bytes request reply → AnswersBehind p s (Request request ∷ []) before after new
replied p old new s request outcome reply victim before after st is steps got printed =
    let h = subst (λ (o : Option Trace). Steps old (Command s old.moment request) o new) is steps p st in
    let next = followed p (Command s old.moment request) (Replied reply victim) in
    record {
      progress = next;
      text = answer_bytes request reply;
      answers = answers_one p next s (Request request) (answer_bytes request reply) (record { reply = reply; victim = victim; got = got; prints = refl; rest = ap (λ m. followed p (Command s m request) (Replied reply victim)) st.moment });
      stands = h.2;
      printed = printed;
    }

-- bytes came on the connection of a site's client
pub connected_stands : (p : Progress) (old mid : Cluster) (s : ℕ) (is : Connection) → Stands p old → mid.moment ≡ old.moment → mid.world ≡ old.world → mid.connections.items ≡ slice_set old.connections.items (s - 1) is → Stands (connected p s is) mid
connected_stands p old mid s is st moment world connections = record {
  moment = moment ∙ st.moment;
  connections = connections ∙ ap (λ cs. slice_set cs (s - 1) is) st.connections;
  clients = length-set p.connections (s - 1) is ∙ st.clients;
  sites = ap (λ w. length w.sites.items) world ∙ st.sites;
  run = subst (λ (w : World). HasAllRun (start p.setups) (empty_tables (length p.setups)) w.sites.items w.parcels.items p.events p.traces) (sym world) st.run;
  alone = subst (λ (w : World). RunsAlone p.setups p.events p.traces w.sites.items) (sym world) st.alone;
}

pub feeds_not : (p : Progress) (mid new : Cluster) (s : ℕ) (is : Connection) (items : List Item) (before after : List ℕ) (there : Bool) → Stands (connected p s is) mid → AnswersFor mid s items before there after new → there ≡ false → is_site (length p.setups) s ≡ false
feeds_not p mid new s is items before after there st answers not = not_true (is_site (length p.setups) s) (λ site. true≢false (sym (answers (connected p s is) st site).0 ∙ not))

pub feeds : (p : Progress) (old mid new : Cluster) (s : ℕ) (was is : Connection) (bytes : List ℕ) (items : List Item) (before after text : List ℕ) (there : Bool) → Stands p old → Stands (connected p s is) mid → is_site (length p.setups) s ≡ true
    → slice_get old.connections.items (s - 1) ≡ Some was → Brings was bytes items is → before ≡ [] → AnswersFor mid s items before there after new → text ≡ client_text s after → CarriesOut p (SaysClient s bytes) text new
feeds p old mid new s was is bytes items before after text there st stands site at brings none answers prints =
    let h = (answers (connected p s is) stands site).1 in
    record {
      progress = h.progress;
      can = site;
      carries = record {
        was = was;
        is = is;
        items = items;
        answer = h.text;
        connection = ap (λ cs. slice_get cs (s - 1)) (sym st.connections) ∙ at;
        brings = brings;
        answers = h.answers;
        prints = prints ∙ ap (λ (x : List ℕ). client_text s x) (h.printed ∙ ap (λ (x : List ℕ). x ++ h.text) none);
      };
      stands = h.stands;
    }
