-- What a value that was found is as a number or as a link.
use Rattle.std.proofs.Common.{◌≡◌, ◌∙◌, ap, List, ℕ, Option, Some, None, Result, Ok, Err, IfOk, IfSome}
use Rattle.std.specs.Result.{result_ok}
use Rattle.toml.specs.Data.{Data, array, table, string, integer, float, boolean, datetime, Items, Members, as_array, as_str, as_table}
use Rattle.geo_config.specs.Document.{LinkIs, link_text}
use Rattle.geo_config.specs.declared.settings.LinkKind.{LinkKind}

pub ok_is_some : {A E : Type 0} (o : Option A) (r : Result A E) → o ≡ result_ok r → IfOk r (λ x. o ≡ Some x)
ok_is_some o (Ok x) is = is
ok_is_some o (Err e) is = tt

pub named_is_link : (r : Option LinkKind) (text : List ℕ) (value : Data) → as_str value ≡ Some text
    → IfSome r (λ link. text ≡ link_text link) → IfSome r (LinkIs (Some value))
named_is_link None text value is named = tt
named_is_link (Some link) text value is named = is ∙ ap Some named

pub array_is : (value : Data) (values : Items) → as_array value ≡ Some values → value ≡ array values
array_is (array vs) values is = cc
array_is (string x) values is = cc
array_is (integer x) values is = cc
array_is (float x) values is = cc
array_is (boolean x) values is = cc
array_is (datetime x) values is = cc
array_is (table x) values is = cc

pub table_is : (value : Data) (members : Members) → as_table value ≡ Some members → value ≡ table members
table_is (table ms) members is = cc
table_is (string x) members is = cc
table_is (integer x) members is = cc
table_is (float x) members is = cc
table_is (boolean x) members is = cc
table_is (datetime x) members is = cc
table_is (array x) members is = cc
