-- The URIs of resources that contain a rendition's number can be written.
use Rattle.std.proofs.Common.{ℕ, zero, suc, ◌<◌, [], ◌∷◌, ◌++◌, List, refl, arith}
use Rattle.std.specs.Prelude.{IsTrue, IsAscii, codes, not, ◌==◌}
use Rattle.std.specs.List.{list_all}
use Rattle.std.specs.Fmt.{decimal, digits}
use Rattle.std.proofs.lemmas.Bool.{and_parts}
use Rattle.std.proofs.lemmas.Fmt.{IsAscii-decimal}
use Rattle.std.proofs.lemmas.Str.{IsAscii-append}
use Rattle.hls_m3u8.specs.Uri.{is_uri_byte, is_uri_text, IsUri}
use Rattle.hls_playlists_laws.proofs.Cited.{ascii_uri}

-- a rendition's number and `.mp4` have only bytes of a URI
spelled : (r : ℕ) → r < 16 → IsTrue (is_uri_text (decimal r ++ codes ".mp4"))
unfolding digits
spelled zero few = refl
spelled (suc zero) few = refl
spelled (suc (suc zero)) few = refl
spelled (suc (suc (suc zero))) few = refl
spelled (suc (suc (suc (suc zero)))) few = refl
spelled (suc (suc (suc (suc (suc zero))))) few = refl
spelled (suc (suc (suc (suc (suc (suc zero)))))) few = refl
spelled (suc (suc (suc (suc (suc (suc (suc zero))))))) few = refl
spelled (suc (suc (suc (suc (suc (suc (suc (suc zero)))))))) few = refl
spelled (suc (suc (suc (suc (suc (suc (suc (suc (suc zero))))))))) few = refl
spelled (suc (suc (suc (suc (suc (suc (suc (suc (suc (suc zero)))))))))) few = refl
spelled (suc (suc (suc (suc (suc (suc (suc (suc (suc (suc (suc zero))))))))))) few = refl
spelled (suc (suc (suc (suc (suc (suc (suc (suc (suc (suc (suc (suc zero)))))))))))) few = refl
spelled (suc (suc (suc (suc (suc (suc (suc (suc (suc (suc (suc (suc (suc zero))))))))))))) few = refl
spelled (suc (suc (suc (suc (suc (suc (suc (suc (suc (suc (suc (suc (suc (suc zero)))))))))))))) few = refl
spelled (suc (suc (suc (suc (suc (suc (suc (suc (suc (suc (suc (suc (suc (suc (suc zero))))))))))))))) few = refl
spelled (suc (suc (suc (suc (suc (suc (suc (suc (suc (suc (suc (suc (suc (suc (suc (suc r)))))))))))))))) few = absurd (omega arith)

-- a text that is a URI is also one in a folder
placed : (text : List ℕ) → IsTrue (is_uri_text text) → IsTrue (is_uri_text (codes "/media/" ++ text))
placed [] good = absurd (cc)
placed (b ∷ bs) good = (and_parts (not (b == 35)) (list_all is_uri_byte (b ∷ bs)) good).1

back : IsAscii (codes ".mp4")
back = search arith

front : IsAscii (codes "/media/")
front = search arith

plain : (r : ℕ) → r < 16 → IsAscii (decimal r ++ codes ".mp4")
plain r few = IsAscii-append (decimal r) (codes ".mp4") (IsAscii-decimal r (omega arith)) back

-- a rendition's number and `.mp4` are a URI that can be written
pub number_uri : (r : ℕ) → r < 16 → IsUri (decimal r ++ codes ".mp4")
number_uri r few = ascii_uri (decimal r ++ codes ".mp4") (spelled r few) (plain r few)

-- they are one below `/media/` too
pub media_uri : (r : ℕ) → r < 16 → IsUri (codes "/media/" ++ decimal r ++ codes ".mp4")
media_uri r few =
    let text : List ℕ = decimal r ++ codes ".mp4" in
    ascii_uri (codes "/media/" ++ text) (placed text (spelled r few)) (IsAscii-append (codes "/media/") text front (plain r few))
