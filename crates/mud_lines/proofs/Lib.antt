mod Typing
