-- Exchanges, one after the other.
use Rattle.std.proofs.Common.{◌≡◌, ℕ, ◌+◌, min, ◌||◌, Bool, true, false, cond, List, [], ◌∷◌, ◌++◌, refl, sym, ap, subst, ◌∙◌, append_assoc, append-nil}
use Rattle.geo_requests.specs.Requests.{is_noreply}
use Rattle.geo_grammar.specs.Replies.{answer_bytes, reply_bytes, fault_bytes}
use Rattle.geo_grammar.specs.declared.fault.Fault.{Fault}
use Rattle.geo_grammar.specs.declared.item.Item.{Item}
use Rattle.geo_requests.specs.declared.reply.Reply.{Reply}
use Rattle.geo_requests.specs.declared.request.Request.{Request}
use Rattle.geo_grammar.specs.Quitting.{is_quit, has_quit, until_quit}
use Rattle.geo_requests.specs.Limits.{most_number}
use Rattle.geo_dialogue.specs.Exchanges.{Exchange, Asked, Told, item_in, items_in, bytes_in, text_of, count_after, Runs}
use Rattle.geo_dialogue.specs.Batches.{Adds}
use Rattle.geo_dialogue.specs.declared.answers.Answers.{Answers}
use Rattle.geo_dialogue.proofs.Lists.{list_any-behind}

pub Runs-append : {S : Type 0} (answers : S → Request → Reply → S → Type 0) (xs ys : List Exchange) (a b c : S) → Runs answers a xs b → Runs answers b ys c → Runs answers a (xs ++ ys) c
Runs-append {S} answers [] ys a b c h k = subst (λ (x : S). Runs answers x ys c) h k
Runs-append answers (Asked request reply ∷ xs) ys a b c h k = (h.0, h.1, Runs-append answers xs ys h.0 b c h.2 k)
Runs-append answers (Told fault ∷ xs) ys a b c h k = Runs-append answers xs ys a b c h k

pub items_in-append : (xs ys : List Exchange) → items_in (xs ++ ys) ≡ items_in xs ++ items_in ys
items_in-append [] ys = refl
items_in-append (x ∷ xs) ys = ap (λ t. item_in x ∷ t) (items_in-append xs ys)

pub text_of-append : (xs ys : List Exchange) → text_of (xs ++ ys) ≡ text_of xs ++ text_of ys
text_of-append [] ys = refl
text_of-append (x ∷ xs) ys = ap (λ t. bytes_in x ++ t) (text_of-append xs ys) ∙ sym (append_assoc (bytes_in x) (text_of xs) (text_of ys))

pub count_after-append : (count : ℕ) (xs ys : List Exchange) → count_after count (xs ++ ys) ≡ count_after (count_after count xs) ys
count_after-append count [] ys = refl
count_after-append count (Asked request reply ∷ xs) ys = count_after-append (min (count + 1) most_number) xs ys
count_after-append count (Told fault ∷ xs) ys = count_after-append count xs ys

quit_first : (t a : Bool) (b c : List Item) → (a ≡ false → b ≡ c) → (t || a) ≡ false → cond t [] b ≡ c
quit_first true a b c more none = cc
quit_first false a b c more none = more none

-- items in front of which no client quit
pub until_quit-behind : (xs ys : List Item) → has_quit xs ≡ false → until_quit (xs ++ ys) ≡ xs ++ until_quit ys
until_quit-behind [] ys h = refl
until_quit-behind (x ∷ xs) ys h = ap (λ (t : List Item). x ∷ t) (quit_first (is_quit x) (has_quit xs) (until_quit (xs ++ ys)) (xs ++ until_quit ys) (until_quit-behind xs ys) h)

pub until_quit-none : (xs : List Item) → has_quit xs ≡ false → until_quit xs ≡ xs
until_quit-none xs h = ap until_quit (sym (append-nil xs)) ∙ until_quit-behind xs [] h ∙ append-nil xs

pub until_quit-here : (xs ys : List Item) (x : Item) → has_quit xs ≡ false → is_quit x ≡ true → until_quit (xs ++ x ∷ ys) ≡ xs ++ x ∷ []
until_quit-here xs ys x h q = until_quit-behind xs (x ∷ ys) h ∙ ap (λ (t : Bool). xs ++ x ∷ cond t [] (until_quit ys)) q

pub has_quit-here : (xs ys : List Item) (x : Item) → has_quit xs ≡ false → is_quit x ≡ true → has_quit (xs ++ x ∷ ys) ≡ true
has_quit-here xs ys x h q = list_any-behind is_quit xs (x ∷ ys) h ∙ ap (λ (t : Bool). t || has_quit ys) q

pub has_quit-not : (xs : List Item) (x : Item) → has_quit xs ≡ false → is_quit x ≡ false → has_quit (xs ++ x ∷ []) ≡ false
has_quit-not xs x h q = list_any-behind is_quit xs (x ∷ []) h ∙ ap (λ (t : Bool). t || false) q

-- a request is acted on where no client quit before it
pub until_quit-next : (xs ys : List Item) (x : Item) → has_quit xs ≡ false → until_quit (xs ++ x ∷ ys) ≡ xs ++ x ∷ cond (is_quit x) [] (until_quit ys)
until_quit-next xs ys x h = until_quit-behind xs (x ∷ ys) h

-- one item more was acted on
pub one_acted : (all xs ys : List Item) (x : Item) (done : List Exchange) (e : Exchange) → xs ++ (x ∷ ys) ≡ all → has_quit xs ≡ false → items_in done ≡ xs → item_in e ≡ x
    → until_quit all ≡ items_in (done ++ e ∷ []) ++ cond (is_quit x) [] (until_quit ys)
one_acted all xs ys x done e whole none came is =
    let more : List Item = cond (is_quit x) [] (until_quit ys) in
    let those : xs ++ x ∷ [] ≡ items_in (done ++ e ∷ []) = ap (λ (t : List Item). t ++ x ∷ []) (sym came) ∙ ap (λ (t : Item). items_in done ++ t ∷ []) (sym is) ∙ sym (items_in-append done (e ∷ [])) in
    ap until_quit (sym whole) ∙ until_quit-next xs ys x none ∙ sym (append_assoc xs (x ∷ []) more) ∙ ap (λ (t : List Item). t ++ more) those

-- the last one was, and asks for the end
pub last_acted : (all xs ys : List Item) (x : Item) (done : List Exchange) (e : Exchange) → xs ++ (x ∷ ys) ≡ all → has_quit xs ≡ false → items_in done ≡ xs → item_in e ≡ x → is_quit x ≡ true
    → until_quit all ≡ items_in (done ++ e ∷ []) ++ []
last_acted all xs ys x done e whole none came is quits = one_acted all xs ys x done e whole none came is ∙ ap (λ (t : Bool). items_in (done ++ e ∷ []) ++ cond t [] (until_quit ys)) quits

-- the next one is not acted on
pub next_left : (all xs ys : List Item) (x : Item) (done : List Exchange) → xs ++ (x ∷ ys) ≡ all → has_quit xs ≡ false → items_in done ≡ xs
    → until_quit all ≡ items_in done ++ x ∷ cond (is_quit x) [] (until_quit ys)
next_left all xs ys x done whole none came = ap until_quit (sym whole) ∙ until_quit-next xs ys x none ∙ ap (λ (t : List Item). t ++ x ∷ cond (is_quit x) [] (until_quit ys)) (sym came)

-- all were acted on
pub all_acted : (all xs : List Item) (done : List Exchange) → xs ≡ all → has_quit xs ≡ false → items_in done ≡ xs → until_quit all ≡ items_in done ++ []
all_acted all xs done whole none came = ap until_quit (sym whole) ∙ until_quit-none xs none ∙ sym came ∙ sym (append-nil (items_in done))

pub quits_in : (all xs ys : List Item) (x : Item) → xs ++ (x ∷ ys) ≡ all → has_quit xs ≡ false → is_quit x ≡ true → has_quit all ≡ true
quits_in all xs ys x whole none quits = ap has_quit (sym whole) ∙ has_quit-here xs ys x none quits

pub came_more : (xs : List Item) (x : Item) (done : List Exchange) (e : Exchange) → items_in done ≡ xs → item_in e ≡ x → items_in (done ++ e ∷ []) ≡ xs ++ x ∷ []
came_more xs x done e came is = items_in-append done (e ∷ []) ∙ ap (λ (t : List Item). t ++ item_in e ∷ []) came ∙ ap (λ (t : Item). xs ++ t ∷ []) is

-- the text of one answer, behind what waits
pub reply_said : (request : Request) (reply : Reply) (old new : List ℕ) → is_noreply request ≡ false → new ≡ old ++ reply_bytes reply → new ≡ old ++ text_of (Asked request reply ∷ [])
reply_said request reply old new wanted h =
    h ∙ ap (λ (t : List ℕ). old ++ t) (sym (append-nil (answer_bytes request reply) ∙ ap (λ (b : Bool). cond b [] (reply_bytes reply)) wanted))

pub reply_unsaid : (request : Request) (reply : Reply) (old new : List ℕ) → is_noreply request ≡ true → new ≡ old → new ≡ old ++ text_of (Asked request reply ∷ [])
reply_unsaid request reply old new quiet h =
    h ∙ sym (append-nil old) ∙ ap (λ (t : List ℕ). old ++ t) (sym (append-nil (answer_bytes request reply) ∙ ap (λ (b : Bool). cond b [] (reply_bytes reply)) quiet))

pub fault_said : (fault : Fault) (old new text : List ℕ) → new ≡ old ++ text → text ≡ fault_bytes fault → new ≡ old ++ text_of (Told fault ∷ [])
fault_said fault old new text h is = h ∙ ap (λ (t : List ℕ). old ++ t) (is ∙ sym (append-nil (fault_bytes fault)))

-- what is added to what waits
pub Adds-none : (a : Answers) → Adds a a []
Adds-none a = record { text = sym (append-nil a.text.items); count = refl }

pub Adds-then : (a b c : Answers) (xs ys : List Exchange) → Adds a b xs → Adds b c ys → Adds a c (xs ++ ys)
Adds-then a b c xs ys h k = record {
  text = k.text ∙ ap (λ (t : List ℕ). t ++ text_of ys) h.text ∙ append_assoc a.text.items (text_of xs) (text_of ys) ∙ ap (λ (t : List ℕ). a.text.items ++ t) (sym (text_of-append xs ys));
  count = k.count ∙ ap (λ n. count_after n ys) h.count ∙ sym (count_after-append a.calls xs ys);
}

pub Adds-same : (a b c : Answers) (xs : List Exchange) → Adds a b xs → Adds b c [] → Adds a c xs
Adds-same a b c xs h k = record { text = k.text ∙ append-nil b.text.items ∙ h.text; count = k.count ∙ h.count }
