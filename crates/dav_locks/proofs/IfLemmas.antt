-- The text that submits locks is derived by the grammar.
use Rattle.std.proofs.Common.{◌≡◌, ℕ, Bool, true, false, not, List, [], ◌∷◌, ◌++◌, All, refl, sym, ap, ◌∙◌, arith, append_assoc}
use Rattle.std.specs.Prelude.{codes, map}
use Rattle.std.specs.List.{AllByRecursion}
use Rattle.std.proofs.lemmas.Bool.Decides.{nat_tests}
use Rattle.std.proofs.lemmas.List.Elements.{All-nil, All-cons, All-append, recursion_from_All}
use Rattle.std.proofs.lemmas.List.Sums.{list_all-from_AllPass, AllPass-from_list_all}
use Rattle.percent_encoding.specs.AsciiSet.{should_percent_encode}
use Rattle.percent_encoding.specs.Percent.{percent_encode}
use Rattle.percent_encoding.proofs.PercentLemmas.{IsEscapeByte, All-percent_encode}
use Rattle.dav_text.specs.declared.sets.TheConstants.{ESCAPED}
use Rattle.dav_text.specs.Path.{is_unreserved, escaped_segments, escaped_parts, escaped}
use Rattle.dav_text.proofs.PathLemmas.{escapes-unless-unreserved}
use Rattle.dav_uri.specs.Target.{BaseParts}
use Rattle.dav_uri.specs.Url.{is_url_byte, is_url_text}
use Rattle.dav_locks.specs.Token.{is_token}
use Rattle.dav_locks.specs.Grammar.{Condition, IsTagged, If, last, more}
use Rattle.dav_locks.specs.IfText.{root_url, condition_text, conditions_text, host_of_base, if_text, conditions, HasToken}
use Rattle.dav_locks.specs.declared.lock.Lock.{Lock}

abbrev IsUrlByte : ℕ → Type 0
IsUrlByte b = is_url_byte b ≡ true

kept_byte : (b : ℕ) → should_percent_encode ESCAPED b ≡ false → IsUrlByte b
kept_byte b kept =
    let free : not (is_unreserved b) ≡ false = sym (escapes-unless-unreserved b) ∙ kept in
    grind (arith, nat_tests)

escape_byte : (b : ℕ) → IsEscapeByte b → IsUrlByte b
escape_byte b escape = grind (arith, nat_tests)

segment_bytes : (segment : List ℕ) → All IsUrlByte (percent_encode ESCAPED segment)
segment_bytes segment = All-percent_encode IsUrlByte ESCAPED segment kept_byte escape_byte

segments_bytes : (segments : List (List ℕ)) → All IsUrlByte (escaped_segments segments)
segments_bytes [] = All-nil IsUrlByte
segments_bytes (segment ∷ segments) =
    All-append IsUrlByte (47 ∷ percent_encode ESCAPED segment) (escaped_segments segments) (All-cons IsUrlByte 47 _ refl (segment_bytes segment)) (segments_bytes segments)

parts_bytes : (segments : List (List ℕ)) (slash : Bool) → All IsUrlByte (escaped_parts segments slash)
parts_bytes [] slash = All-cons IsUrlByte 47 [] refl (All-nil IsUrlByte)
parts_bytes (segment ∷ segments) true =
    All-append IsUrlByte (escaped_segments (segment ∷ segments)) (47 ∷ []) (segments_bytes (segment ∷ segments)) (All-cons IsUrlByte 47 [] refl (All-nil IsUrlByte))
parts_bytes (segment ∷ segments) false =
    All-append IsUrlByte (escaped_segments (segment ∷ segments)) [] (segments_bytes (segment ∷ segments)) (All-nil IsUrlByte)

url_is_text : (host : List ℕ) (lock : Lock) → is_url_text host ≡ true → is_url_text (root_url host lock) ≡ true
url_is_text host lock plain =
    list_all-from_AllPass is_url_byte (root_url host lock)
    (All-append IsUrlByte (codes "http://" ++ host) (escaped lock.root)
    (All-append IsUrlByte (codes "http://") host (AllPass-from_list_all is_url_byte (codes "http://") refl) (AllPass-from_list_all is_url_byte host plain))
    (parts_bytes lock.root.segments lock.root.slash))

regrouped : (a b c d e : List ℕ) → (((a ++ b) ++ c) ++ d) ++ e ≡ a ++ (b ++ (c ++ (d ++ e)))
regrouped a b c d e = append_assoc ((a ++ b) ++ c) d e ∙ append_assoc (a ++ b) c (d ++ e) ∙ append_assoc a b (c ++ (d ++ e))

-- the condition that a lock is submitted by
abbrev condition_of : List ℕ → Lock → Condition
condition_of host lock = record { url = root_url host lock; token = lock.token }

tagged : (host : List ℕ) (lock : Lock) (behind : List ℕ) → is_url_text host ≡ true → is_token lock.token ≡ true → IsTagged (condition_of host lock) (condition_text host lock ++ behind) behind
tagged host lock behind plain token = record {
  before_list = 32 ∷ [];
  before_token = [];
  after_token = [];
  split = ap (λ (t : List ℕ). 60 ∷ t) (regrouped (root_url host lock) (codes "> (<") lock.token (codes ">)") behind);
  url = url_is_text host lock plain;
  token = token;
  blanks = refl;
}

derived_from : (host : List ℕ) (lock : Lock) (locks : List Lock) → is_url_text host ≡ true → AllByRecursion HasToken (lock ∷ locks) → If (map (condition_of host) (lock ∷ locks)) (conditions_text host (lock ∷ locks))
derived_from host lock [] plain tokens = last _ _ (tagged host lock [] plain tokens.0)
derived_from host lock (next ∷ others) plain tokens =
    let behind = conditions_text host (next ∷ others) in
    more (condition_of host lock) (map (condition_of host) (next ∷ others)) _ (32 ∷ []) behind
    (tagged host lock (32 ∷ behind) plain tokens.0) refl (derived_from host next others plain tokens.1)

by_recursion : (host : List ℕ) (locks : List Lock) → is_url_text host ≡ true → AllByRecursion HasToken locks → (locks ≡ [] → ⊥) → If (map (condition_of host) locks) (conditions_text host locks)
by_recursion host [] plain tokens some = absurd (some refl)
by_recursion host (lock ∷ locks) plain tokens some = derived_from host lock locks plain tokens

pub derived : (base : BaseParts) (locks : List Lock) → is_url_text (host_of_base base) ≡ true → All HasToken locks → (locks ≡ [] → ⊥) → If (conditions base locks) (if_text base locks)
derived base locks plain tokens = by_recursion (host_of_base base) locks plain (recursion_from_All HasToken locks tokens)
