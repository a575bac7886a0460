use Rattle.std.proofs.Common.{◌≡◌, ◌++◌, ap, sym, ◌∙◌}
use Rattle.dav_auth.specs.Clean.{is_clean}
use Rattle.dav_auth.specs.Digest.{digest}
use Rattle.dav_auth.specs.Field.{login_text, algorithm_text, opaque_text, qop_text}
use Rattle.dav_auth.proofs.CleanLemmas.{Clean, clean_value}
use Rattle.dav_auth.proofs.field.authorization.Goals as goal

pub returns : goal.returns
returns c =
    let challenge = c.args.challenge.now in
    let secret = c.args.secret.now in
    let uri = c.args.uri.now in
    let cnonce = c.args.cnonce.now in
    let answer = digest challenge secret c.args.method uri c.args.nc cnonce in
    let login = login_text challenge secret uri answer in
    let algorithm = algorithm_text challenge.algorithm in
    let opaque = opaque_text challenge.opaque in
    let qop = qop_text challenge.qop c.args.nc cnonce in
    let h1 : c.put_login.new.out.items ≡ login =
    c.in_ok-put_login.ensures ∙ ap (λ s. s ++ login_text challenge secret uri c.as_bytes.result.now) c.new-out.ensures.items
    ∙ ap (λ a. login_text challenge secret uri a) (c.as_bytes.ensures ∙ c.in_ok-answer.ensures.value) in
    let h2 : c.put_algorithm.new.out.items ≡ login ++ algorithm = c.in_ok-put_algorithm.ensures ∙ ap (λ s. s ++ algorithm) h1 in
    let h3 : c.put_opaque.new.out.items ≡ login ++ algorithm ++ opaque = c.in_ok-put_opaque.ensures ∙ ap (λ s. s ++ opaque) h2 in
    let h4 : c.put_qop.new.out.items ≡ login ++ algorithm ++ opaque ++ qop = c.in_ok-put_qop.ensures ∙ ap (λ s. s ++ qop) h3 in
    let is : c.from_vec.result ≡ login ++ algorithm ++ opaque ++ qop = c.from_vec.ensures ∙ h4 in
    let clean : Clean answer = ap is_clean (sym c.in_ok-answer.ensures.value) ∙ c.in_ok-answer.ensures.clean in
    record {
      value = is;
      clean = λ u k. ap is_clean is ∙ clean_value challenge secret uri c.args.nc cnonce answer u k clean;
    }
