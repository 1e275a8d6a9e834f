use Rattle.cd_caddyfile.proofs.TextWords.{words_texts, spelled_text}
use Rattle.cd_caddyfile.proofs.laws.words_of_texts_are_texts.Goals as goal

pub returns : goal.returns
returns c = record { words = words_texts; spelled = spelled_text }
