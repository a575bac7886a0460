use Rattle.std.proofs.Common.{◌≡◌, ℕ, List, ◌++◌, refl, ap, ◌∙◌, codes}
use Rattle.std.proofs.lemmas.Result.{on_ok_weaker}
use Rattle.dav_auth.specs.Field.{parameter}
use Rattle.dav_auth.proofs.QuoteLemmas.{grown}
use Rattle.dav_auth.proofs.field.put_login.Goals as goal

-- five pieces one after another
five_pieces : (old a b c d e one two three four five : List ℕ) → one ≡ old ++ a → two ≡ one ++ b → three ≡ two ++ c → four ≡ three ++ d → five ≡ four ++ e
    → five ≡ old ++ (a ++ b ++ c ++ d ++ e)
five_pieces old a b c d e one two three four five h1 h2 h3 h4 h5 =
    let g2 : two ≡ old ++ (a ++ b) = grown old a b (a ++ b) one two h1 h2 refl in
    let g3 : three ≡ old ++ (a ++ b ++ c) = grown old (a ++ b) c (a ++ b ++ c) two three g2 h3 refl in
    let g4 : four ≡ old ++ (a ++ b ++ c ++ d) = grown old (a ++ b ++ c) d (a ++ b ++ c ++ d) three four g3 h4 refl in
    grown old (a ++ b ++ c ++ d) e (a ++ b ++ c ++ d ++ e) four five g4 h5 refl

pub returns : goal.returns
returns c =
    let old = c.args.out.now.items in
    let challenge = c.args.challenge.now in
    let o1 = c.put_quoted.new.out.items in
    let o2 = c.put_quoted-2.new.out.items in
    let o3 = c.put_quoted-3.new.out.items in
    let o4 = c.put_quoted-4.new.out.items in
    let user = codes "Digest username=" in
    let realm = codes ", realm=" in
    let nonce = codes ", nonce=" in
    let uri = codes ", uri=" in
    let h1 : o1 ≡ old ++ parameter user c.args.secret.now.user =
    c.in_ok-put_quoted.ensures ∙ ap (λ t. old ++ parameter user t) c.as_bytes.ensures in
    let h2 : o2 ≡ o1 ++ parameter realm challenge.realm =
    c.in_ok-put_quoted-2.ensures ∙ ap (λ t. o1 ++ parameter realm t) c.as_slice.ensures in
    let h3 : o3 ≡ o2 ++ parameter nonce challenge.nonce =
    c.in_ok-put_quoted-3.ensures ∙ ap (λ t. o2 ++ parameter nonce t) c.as_slice-2.ensures in
    on_ok_weaker c.put_quoted-5.result
    (λ h5. five_pieces old (parameter user c.args.secret.now.user) (parameter realm challenge.realm) (parameter nonce challenge.nonce)
    (parameter uri c.args.uri.now) (parameter (codes ", response=") c.args.answer.now) o1 o2 o3 o4 c.put_quoted-5.new.out.items h1 h2 h3
    c.in_ok-put_quoted-4.ensures h5)
    c.put_quoted-5.ensures
