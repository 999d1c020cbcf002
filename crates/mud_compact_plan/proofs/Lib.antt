mod Spellable
